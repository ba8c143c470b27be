-- How states are distinguished (own).
use Rattle.std.specs.Prelude.{ℕ, ◌≡◌, ◌≤◌, ◌&&◌, ◌||◌, Bool, true, false, not, List, length}
use Rattle.std.specs.List.{list_any}
use Rattle.mcs_types.specs.Changes.{makes_object}
use Rattle.mcs_book.specs.Boots.{Boot}
use Rattle.mcs_turns.specs.Turns.{User}
use Rattle.mcs_explore_search.specs.Search.{Entries}
use Rattle.mcs_explore_walk.specs.declared.walk.Turn.{Turn}
use Rattle.mcs_explore_report.specs.declared.modes.Mode.{Mode}
use Rattle.mcs_explore_report.specs.declared.modes.Mode.TheVariants.{Proved, Canonical}
use Rattle.mcs_explore_script.specs.declared.questions.AskedLine.{AskedLine}
use Rattle.mcs_explore_report.specs.Naming.{names_later, names_message}

-- whether states that are not distinguished are proved to have one future, and whether the numbers
-- of messages are distinguished
abbrev pub is_proved : Mode → Bool
is_proved (Proved numbered) = true
is_proved Canonical = false

abbrev pub are_numbered : Mode → Bool
are_numbered (Proved numbered) = numbered
are_numbered Canonical = false

-- whether an entry of a user makes an object
abbrev pub makes_objects : List User → Bool
makes_objects users = list_any (λ (u : User). list_any makes_object u.entries) users

-- whether a question names a message, or an object that the boot did not make
abbrev pub any_message : List AskedLine → Bool
any_message questions = list_any (λ (q : AskedLine). names_message q.asked) questions

abbrev pub any_later : Boot → List AskedLine → Bool
any_later boot questions = list_any (λ (q : AskedLine). names_later boot q.asked) questions

-- what is asked for or named is distinguished; else numbers of messages are not, nor are objects
-- that users make but by their slots
abbrev pub mode_by : Bool → Bool → Mode
mode_by true merges = Proved true
mode_by false true = Canonical
mode_by false false = Proved false

abbrev pub mode_of : Boot → List User → List AskedLine → Bool → Mode
mode_of boot users questions exact = mode_by (exact || any_message questions) (makes_objects users && not (any_later boot questions))

-- a search by proved keys that has expanded all states that it found
pub record IsWholeSearch {K : Type 0} (boot : Boot) (users : List User) (questions : List AskedLine) (exact : Bool) (found : Entries K Turn) (done : ℕ) : Type 0 where
  pub numbered : Bool
  pub mode : mode_of boot users questions exact ≡ Proved numbered
  pub all : length found ≤ done
