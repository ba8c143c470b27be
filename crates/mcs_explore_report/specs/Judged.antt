-- What is kept of questions (own).
use Rattle.std.specs.Prelude.{ℕ, ◌≡◌, true, false, cond, List, Option, Some, None, length, slice_get}
use Rattle.mcs_turns.specs.Turns.{User, RunState}
use Rattle.mcs_explore_walk.specs.declared.walk.Turn.{Turn}
use Rattle.mcs_explore_orders.specs.Shown.{IsShown, Made, Shown, SeenState}
use Rattle.mcs_explore_questions.specs.declared.questions.Asked.{Asked}
use Rattle.mcs_explore_script.specs.declared.questions.AskedLine.{AskedLine}
use Rattle.mcs_explore_report.specs.declared.judgement.Sighting.{Sighting}
use Rattle.mcs_explore_report.specs.Judging.{fails}

-- where a question failed first, with one look more
abbrev pub judged : List User → Asked → Sighting → RunState → Option Sighting → Option Sighting
judged users q seen g (Some before) = Some before
judged users q seen g None = cond (fails users q seen.turn g) (Some seen) None

-- all questions were judged by a look, and nothing else was changed
pub record AreJudgedBy (users : List User) (questions : List AskedLine) (seen : Sighting) (g : RunState) (old new : List (Option Sighting)) : Type 0 where
  pub long : length new ≡ length old
  pub each : (i : ℕ) (q : AskedLine) (f : Option Sighting) → slice_get questions i ≡ Some q → slice_get old i ≡ Some f → slice_get new i ≡ Some (judged users q.asked seen g f)

-- the state in a place was shown
pub record IsStateShown (states : List SeenState) (i : ℕ) (g : RunState) : Type 0 where
  pub number : ℕ
  pub sight : SeenState
  pub at : slice_get states number ≡ Some sight
  pub place : sight.place ≡ i
  pub run_state : sight.run_state ≡ g

-- a state was shown, or a turn from it and what is after it
abbrev pub IsShownBy : Shown → ℕ → Option Turn → RunState → Type 0
IsShownBy shown i None g = IsStateShown shown.states i g
IsShownBy shown i (Some t) g = IsShown shown.turns i t g

-- a question failed in what was shown
pub record HasFailed (users : List User) (q : Asked) (shown : Shown) (seen : Sighting) : Type 0 where
  pub run_state : RunState
  pub is : IsShownBy shown seen.place seen.turn run_state
  pub fails : fails users q seen.turn run_state ≡ true

-- a question failed nowhere in what was shown
pub record HasHeld (users : List User) (q : Asked) (shown : Shown) : Type 0 where
  pub states : (j : ℕ) (s : SeenState) → slice_get shown.states j ≡ Some s → fails users q None s.run_state ≡ false
  pub turns : (j : ℕ) (m : Made) → slice_get shown.turns j ≡ Some m → fails users q (Some m.turn) m.run_state ≡ false

-- a question failed where it is noted to have failed, and nowhere if nothing is noted
abbrev pub IsJudged : List User → Asked → Shown → Option Sighting → Type 0
IsJudged users q shown None = HasHeld users q shown
IsJudged users q shown (Some seen) = HasFailed users q shown seen

-- each question is judged by what was shown
pub record AreJudged (users : List User) (questions : List AskedLine) (shown : Shown) (failed : List (Option Sighting)) : Type 0 where
  pub long : length failed ≡ length questions
  pub each : (i : ℕ) (q : AskedLine) (f : Option Sighting) → slice_get questions i ≡ Some q → slice_get failed i ≡ Some f → IsJudged users q.asked shown f
