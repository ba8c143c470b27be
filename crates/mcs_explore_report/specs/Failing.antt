-- What `fails` means of a script: some run shows it, or none shows what is asked for (own).
use Rattle.std.specs.Prelude.{ℕ, ◌≡◌, ◌⊎◌, Bool, true, false, List, Option, Some, slice_get}
use Rattle.mcs_book.specs.Boots.{Boot}
use Rattle.mcs_turns.specs.Turns.{User, RunState, IsOver, IsRun}
use Rattle.mcs_explore_walk.specs.declared.walk.Turn.{Turn}
use Rattle.mcs_explore_questions.specs.declared.questions.Asked.{Asked}
use Rattle.mcs_explore_questions.specs.declared.questions.Asked.TheVariants as asked
use Rattle.mcs_explore_questions.specs.declared.questions.Event.{Event}
use Rattle.mcs_explore_script.specs.declared.questions.AskedLine.{AskedLine}
use Rattle.mcs_explore_script.specs.declared.lives.Live.{Live}
use Rattle.mcs_explore_script.specs.declared.script.UserScript.{UserScript}
use Rattle.mcs_explore_script.specs.Scripts.{IsScript}
use Rattle.mcs_explore_report.specs.declared.modes.Mode.TheVariants.{Proved}
use Rattle.mcs_explore_report.specs.Endings.{are_idle}
use Rattle.mcs_explore_report.specs.Found.{IsSeenFrom}
use Rattle.mcs_explore_report.specs.Holding.{AllAnswersAre, SomeAnswerIs}
use Rattle.mcs_explore_report.specs.Judging.{fails}
use Rattle.mcs_explore_report.specs.Modes.{mode_of}
use Rattle.mcs_explore_report.specs.Standings.{standings}
use Rattle.mcs_explore_report.specs.Stuck.{IsLive}
use Rattle.mcs_explore_report.specs.Verdicts.{lacks}

-- some run that is over has not answered an entry for good
pub record SomeEndLacks (users : List User) (boot : Boot) (e : Event) : Type 0 where
  pub turns : ℕ
  pub state : RunState
  pub run : IsRun users boot turns state
  pub over : IsOver users state
  pub lacks : lacks e (standings users state) ≡ true

-- a question fails in some run: in a state, or by a turn
pub record FailsInRun (users : List User) (boot : Boot) (q : Asked) : Type 0 where
  pub turns : ℕ
  pub state : RunState
  pub run : IsRun users boot turns state
  pub turn : Option Turn
  pub run_state : RunState
  pub is : IsSeenFrom users state turn run_state
  pub fails : fails users q turn run_state ≡ true

-- in some run a user that must not get stuck is stuck: no run continues from there to an answer of
-- it
pub record HasStuckUser (s : UserScript) : Type 0 where
  pub index : ℕ
  pub live : Live
  pub at : slice_get s.lives.items index ≡ Some live
  pub turns : ℕ
  pub state : RunState
  pub run : IsRun s.users s.boot turns state
  pub stuck : IsLive s.users live state → ⊥

-- a question does not hold in all runs; one of `some` holds in none
abbrev pub FailsInRuns : UserScript → Asked → Type 0
FailsInRuns s (asked.Idle thread entries) = ⊥
FailsInRuns s (asked.Again event) = ⊥
FailsInRuns s (asked.Ruled rule) = ⊥
FailsInRuns s (asked.Live thread number) = HasStuckUser s
FailsInRuns s (asked.Answer event pattern) = SomeAnswerIs s.users s.boot event pattern.items false ⊎ SomeEndLacks s.users s.boot event
FailsInRuns s (asked.AnswerIf event pattern) = SomeAnswerIs s.users s.boot event pattern.items false
FailsInRuns s (asked.Some event pattern) = AllAnswersAre s.users s.boot event pattern.items false
FailsInRuns s q = FailsInRun s.users s.boot q

-- a question of a script does not
pub record HasFailingQuestion (s : UserScript) : Type 0 where
  pub index : ℕ
  pub line : AskedLine
  pub at : slice_get s.asked.items index ≡ Some line
  pub fails : FailsInRuns s line.asked

-- some run is over, and in it a user is not done, and waits where no question lets it wait for ever
pub record HasBadEnd (s : UserScript) : Type 0 where
  pub turns : ℕ
  pub state : RunState
  pub run : IsRun s.users s.boot turns state
  pub over : IsOver s.users state
  pub bad : are_idle s.asked.items (standings s.users state) ≡ false

-- a script fails: by an end, by a question, or by a user that is stuck
abbrev pub IsFailing : UserScript → Type 0
IsFailing s = HasBadEnd s ⊎ (HasFailingQuestion s ⊎ HasStuckUser s)

-- a script fails, if its states are distinguished by proved keys
abbrev pub IsProvedToFail : Bool → UserScript → Type 0
IsProvedToFail exact s = (numbered : Bool) → mode_of s.boot s.users s.asked.items exact ≡ Proved numbered → IsFailing s

-- a script was read, and it fails, if its states are
pub record HasReadFailing (exact : Bool) (left left' : Option (List ℕ)) : Type 0 where
  pub script : UserScript
  pub is : IsScript left left' script
  pub fails : IsProvedToFail exact script
