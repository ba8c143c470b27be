-- The users of a script (own).
use Rattle.std.specs.Prelude.{ℕ, ◌-◌, Bool, true, false, cond, map, List, [], ◌∷◌, Option, position}
use Rattle.std.specs.List.{list_any}
use Rattle.mcs_types.specs.declared.id.ObjId.{ObjId}
use Rattle.mcs_types.specs.Ids.{same}
use Rattle.mcs_text.specs.declared.steps.UserEntry.{UserEntry}
use Rattle.mcs_turns.specs.Turns.{User}
use Rattle.mcs_users.specs.Users.{scheduled, straightened, with_again, with_entry}
use Rattle.mcs_explore_questions.specs.declared.questions.Asked.{Asked}
use Rattle.mcs_explore_questions.specs.declared.questions.Asked.TheVariants as asked
use Rattle.mcs_explore_questions.specs.declared.questions.Rule.{Rule}
use Rattle.mcs_explore_questions.specs.declared.questions.Rule.TheVariants as rule
use Rattle.mcs_explore_script.specs.declared.questions.AskedLine.{AskedLine}

-- the number of the user of a thread
abbrev pub user_of : List User → ObjId → Option ℕ
user_of us t = position (λ (u : User). same u.thread t) us

-- users with these entries more, each at the end of its thread's list
abbrev pub with_entries : List User → List UserEntry → List User
with_entries us [] = us
with_entries us (e ∷ es) = with_entries (with_entry us e.thread e.entry) es

-- users that follow a rule; the rule `ResumedGoesOn` changes no list, since it is for all programs
abbrev pub ruled_by : Rule → List User → List User
ruled_by (rule.By by) us = map (scheduled by) us
ruled_by rule.ResumedGoesOn us = us

-- users of which one repeats, or which follow a rule, if a line says so
abbrev pub changed_by : List User → Asked → List User
changed_by us (asked.Again e) = with_again us e.thread (e.number - 1)
changed_by us (asked.Ruled rule) = ruled_by rule us
changed_by us _ = us

-- users changed by all lines that say so
abbrev pub all_changed : List User → List AskedLine → List User
all_changed us [] = us
all_changed us (q ∷ qs) = all_changed (changed_by us q.asked) qs

-- whether a line lets no user give an entry again that was answered
abbrev pub tells_once : Asked → Bool
tells_once (asked.Ruled rule.ResumedGoesOn) = true
tells_once _ = false

-- users that go by all lines: by the programs of their lists, where one lets no user give an entry
-- again that was answered
abbrev pub ruled : List User → List AskedLine → List User
ruled us qs = cond (list_any (λ (q : AskedLine). tells_once q.asked) qs) (map straightened (all_changed us qs)) (all_changed us qs)
