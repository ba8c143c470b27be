-- Users that may not get stuck (own).
use Rattle.std.specs.Prelude.{ℕ, ◌+◌, ◌-◌, ◌++◌, cond, flat_map, length, List, [], ◌∷◌, Option, Some, None, slice_get}
use Rattle.std.specs.List.{list_any}
use Rattle.mcs_turns.specs.Turns.{User, is_program}
use Rattle.mcs_explore_questions.specs.declared.questions.Asked.{Asked}
use Rattle.mcs_explore_questions.specs.declared.questions.Asked.TheVariants as asked
use Rattle.mcs_explore_questions.specs.Asking.{is_of_waits}
use Rattle.mcs_explore_script.specs.declared.lives.Live.{Live}
use Rattle.mcs_explore_script.specs.declared.questions.AskedLine.{AskedLine}
use Rattle.mcs_explore_script.specs.UserLists.{user_of}

-- the entry that can be answered in some order as long as a user is not stuck: its last; any, if
-- its list repeats or it runs a program
abbrev pub last_entry : User → Option ℕ
last_entry u = cond (is_program u.ops) None (elim u.again [ None ↦ Some (length u.entries - 1) | Some first ↦ None ])

-- an entry by its number from 1 on, as the number from 0; if there is none, the last
abbrev pub entry_asked : Option ℕ → User → Option ℕ
entry_asked None u = last_entry u
entry_asked (Some number) u = Some (number - 1)

-- the user in a place that may not get stuck before this entry, if there is one
abbrev pub live_of : List User → Option ℕ → Option ℕ → List Live
live_of us number None = []
live_of us number (Some i) = elim (slice_get us i) [ None ↦ [] | Some u ↦ (record { user = i; entry = entry_asked number u }) ∷ [] ]

-- what a question asks of users that may not get stuck
abbrev pub asked_live : List User → Asked → List Live
asked_live us (asked.Live thread number) = live_of us number (user_of us thread)
asked_live us _ = []

-- what all questions do
abbrev pub asked_lives : List User → List AskedLine → List Live
asked_lives us questions = flat_map (λ (q : AskedLine). asked_live us q.asked) questions

-- a user about whose waits there is no question
abbrev pub other_live : List AskedLine → ℕ → User → List Live
other_live questions i u = cond (list_any (λ (q : AskedLine). is_of_waits q.asked u.thread) questions) [] ((record { user = i; entry = last_entry u }) ∷ [])

-- all of those, where the first user has this number
abbrev pub other_lives : List AskedLine → ℕ → List User → List Live
other_lives questions i [] = []
other_lives questions i (u ∷ us) = other_live questions i u ++ other_lives questions (i + 1) us

-- users that must not get stuck: those of questions, then each about whose waits there is no
-- question
abbrev pub lives_of : List User → List AskedLine → List Live
lives_of us questions = asked_lives us questions ++ other_lives questions 0 us
