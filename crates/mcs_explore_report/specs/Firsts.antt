-- What was shown first (own).
use Rattle.std.specs.Prelude.{ℕ, ◌≡◌, ◌≤◌, ◌⊎◌, true, List, Option, Some, None, slice_get}
use Rattle.mcs_types.specs.declared.entry.Answer.{Answer}
use Rattle.mcs_types.specs.declared.entry.Answer.TheVariants as answer
use Rattle.mcs_turns.specs.Turns.{User}
use Rattle.mcs_explore_walk.specs.declared.walk.Turn.{Turn}
use Rattle.mcs_explore_orders.specs.Shown.{Made, Shown, SeenState}
use Rattle.mcs_explore_report.specs.declared.answers.Witness.{Witness}
use Rattle.mcs_explore_script.specs.declared.questions.AskedLine.{AskedLine}
use Rattle.mcs_explore_report.specs.declared.judgement.Sighting.{Sighting}
use Rattle.mcs_explore_report.specs.Answers.{IsMailed, IsOwnAnswer, Tables, table_of}
use Rattle.mcs_explore_report.specs.Ends.{Kind}
use Rattle.mcs_explore_report.specs.Judging.{fails}
use Rattle.mcs_explore_report.specs.Standings.{standings}

-- a state in this place was shown no later than the one with the number j
pub record IsStateBefore (states : List SeenState) (place j : ℕ) : Type 0 where
  pub number : ℕ
  pub sight : SeenState
  pub at : slice_get states number ≡ Some sight
  pub there : sight.place ≡ place
  pub before : number ≤ j

-- a turn from the state in this place is among the first j + 1 that were shown
pub record IsTurnBefore (turns : List Made) (place j : ℕ) : Type 0 where
  pub number : ℕ
  pub made : Made
  pub at : slice_get turns number ≡ Some made
  pub there : made.place ≡ place
  pub before : number ≤ j

-- a turn gave an entry this answer: its own, but Waits, or what reached it
abbrev pub HasGiven : List User → Made → ℕ → ℕ → Answer → Type 0
HasGiven users m user number a = (IsOwnAnswer m user number a × (a ≡ answer.Waits → ⊥)) ⊎ IsMailed users m.from m.run_state user number m.turn a

-- for each kind of ends, no final state with the same standings was shown before that of the kind
abbrev pub AreFirstEnds : List User → List SeenState → List Kind → Type 0
AreFirstEnds users states kinds = (i j : ℕ) (k : Kind) (s : SeenState) → slice_get kinds i ≡ Some k → slice_get states j ≡ Some s → s.is_over ≡ true → standings users s.run_state ≡ k.standing → IsStateBefore states k.place j

-- no turn that gave an answer was shown before the one that is kept of it
abbrev pub AreFirstAnswers : List User → List Made → Tables → Type 0
AreFirstAnswers users turns tables = (a b i j : ℕ) (witnesses : List Witness) (t : Witness) (m : Made) → table_of tables a b ≡ Some witnesses → slice_get witnesses i ≡ Some t → slice_get turns j ≡ Some m → HasGiven users m a b t.answer → IsTurnBefore turns t.place j

-- no state and no turn in which a question fails was shown before the one that is kept of it
pub record AreFirstFailures (users : List User) (questions : List AskedLine) (shown : Shown) (failed : List (Option Sighting)) : Type 0 where
  pub states : (i j place : ℕ) (q : AskedLine) (s : SeenState) → slice_get questions i ≡ Some q → slice_get failed i ≡ Some (Some (record { place = place; turn = None })) → slice_get shown.states j ≡ Some s
      → fails users q.asked None s.run_state ≡ true → IsStateBefore shown.states place j
  pub turns : (i j place : ℕ) (t : Turn) (q : AskedLine) (m : Made) → slice_get questions i ≡ Some q → slice_get failed i ≡ Some (Some (record { place = place; turn = Some t })) → slice_get shown.turns j ≡ Some m
      → fails users q.asked (Some m.turn) m.run_state ≡ true → IsTurnBefore shown.turns place j

pub record AreFirst (users : List User) (questions : List AskedLine) (shown : Shown) (kinds : List Kind) (tables : Tables) (failed : List (Option Sighting)) : Type 0 where
  pub ends : AreFirstEnds users shown.states kinds
  pub answers : AreFirstAnswers users shown.turns tables
  pub failures : AreFirstFailures users questions shown failed
