-- What is kept of runs that are drawn, and what it shows (own).
use Rattle.std.specs.Prelude.{ℕ, ◌≡◌, Bool, true, false, is_some, List, Option, Some, None, slice_get}
use Rattle.std.specs.List.{list_any}
use Rattle.mcs_book.specs.Boots.{Boot}
use Rattle.mcs_turns.specs.Turns.{RunState, IsOver, IsRun, User}
use Rattle.mcs_explore_orders.specs.Shown.{IsTurnFrom, Made, Shown, SeenState}
use Rattle.mcs_explore_questions.specs.declared.questions.Asked.{Asked}
use Rattle.mcs_explore_script.specs.declared.questions.AskedLine.{AskedLine}
use Rattle.mcs_explore_script.specs.declared.script.UserScript.{UserScript}
use Rattle.mcs_explore_script.specs.Scripts.{IsScript}
use Rattle.mcs_explore_report.specs.declared.judgement.Sighting.{Sighting}
use Rattle.mcs_explore_report.specs.declared.verdicts.Verdict.{Verdict}
use Rattle.mcs_explore_report.specs.Answers.{Tables}
use Rattle.mcs_explore_report.specs.Ends.{Kind}
use Rattle.mcs_explore_report.specs.Failing.{IsFailing}
use Rattle.mcs_explore_report.specs.Kept.{IsKept}
use Rattle.mcs_explore_report.specs.Verdicts.{IsVerdict, failed_at}
use Rattle.mcs_explore_run.specs.declared.evidence.Judged.{Judged}
use Rattle.mcs_explore_run.specs.declared.evidence.Showed.{Showed}
use Rattle.mcs_explore_run.specs.declared.evidence.Showed.TheVariants as showed

-- a state that was shown is that of a run, and is over if it was shown as over
pub record IsOfRun (users : List User) (boot : Boot) (s : SeenState) : Type 0 where
  pub turns : ℕ
  pub run : IsRun users boot turns s.run_state
  pub over : s.is_over ≡ true → IsOver users s.run_state

-- a turn that was shown is one from the state of a run
pub record IsFromRun (users : List User) (boot : Boot) (m : Made) : Type 0 where
  pub turns : ℕ
  pub state : RunState
  pub run : IsRun users boot turns state
  pub turn : IsTurnFrom users state m

-- all that was shown is of runs
pub record AreOfRuns (users : List User) (boot : Boot) (shown : Shown) : Type 0 where
  pub states : (j : ℕ) (s : SeenState) → slice_get shown.states j ≡ Some s → IsOfRun users boot s
  pub turns : (j : ℕ) (m : Made) → slice_get shown.turns j ≡ Some m → IsFromRun users boot m

-- a watch that has seen only states and turns of runs
pub record HasSeenRuns {W : Type 0} (Has : W → List User → Shown → Type 0) (watch : W) (users : List User) (boot : Boot) : Type 0 where
  pub shown : Shown
  pub has : Has watch users shown
  pub are : AreOfRuns users boot shown

-- a watch that is shown more states and turns of runs
abbrev pub SeesRuns : {W : Type 0} → (W → List User → Shown → Type 0) → W → W → List User → Boot → Type 0
SeesRuns Has old new users boot = HasSeenRuns Has old users boot → HasSeenRuns Has new users boot

-- of each run that leads to this state
abbrev pub SeesFrom : {W : Type 0} → (W → List User → Shown → Type 0) → W → W → List User → RunState → Type 0
SeesFrom Has old new users g = (boot : Boot) (n : ℕ) → IsRun users boot n g → SeesRuns Has old new users boot

-- the ends, the answers and the failures of all that was shown, which is of runs
pub record IsKeptOfRuns (users : List User) (boot : Boot) (questions : List AskedLine) (kinds : List Kind) (tables : Tables) (failed : List (Option Sighting)) : Type 0 where
  pub shown : Shown
  pub are : AreOfRuns users boot shown
  pub kept : IsKept users questions shown kinds tables failed

-- whether a run shows that a question does not hold
abbrev pub fails : Showed → Bool
fails (showed.Fails number) = true
fails (showed.Came number) = false
fails showed.CameNot = false
fails showed.FailedNot = false
fails showed.NotShown = false

abbrev pub any_fails : List Judged → Bool
any_fails js = list_any (λ (j : Judged). fails j.showed) js

-- a verdict by which a question does not hold, as a kept state or answer shows
pub record IsShownToFail (users : List User) (kinds : List Kind) (tables : Tables) (f : Option Sighting) (q : Asked) : Type 0 where
  pub verdict : Verdict
  pub is : IsVerdict users kinds tables f None q verdict
  pub fails : verdict.holds ≡ false
  pub seen : is_some verdict.seen ≡ true

-- one of the questions is shown to fail
pub record HasShownFailure (users : List User) (questions : List AskedLine) (kinds : List Kind) (tables : Tables) (failed : List (Option Sighting)) : Type 0 where
  pub index : ℕ
  pub line : AskedLine
  pub at : slice_get questions index ≡ Some line
  pub is : IsShownToFail users kinds tables (failed_at failed index) line.asked

-- a script was read, and some run shows that it fails
pub record HasReadFailing (left left' : Option (List ℕ)) : Type 0 where
  pub script : UserScript
  pub is : IsScript left left' script
  pub fails : IsFailing script
