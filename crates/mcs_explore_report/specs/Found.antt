-- The findings over all states that were expanded (own).
use Rattle.std.specs.Prelude.{ℕ, ◌≡◌, ◌<◌, ◌≤◌, ◌⊎◌, true, false, List, Option, Some, None, length, slice_get}
use Rattle.mcs_types.specs.declared.entry.Answer.{Answer}
use Rattle.mcs_types.specs.declared.entry.Answer.TheVariants as answer
use Rattle.mcs_book.specs.Boots.{Boot}
use Rattle.mcs_turns.specs.Turns.{User, RunState, IsOver, IsRun, beginning}
use Rattle.mcs_explore_search.specs.Paths.{Path}
use Rattle.mcs_explore_search.specs.Search.{Entries, depth_at, path_of, paths_below}
use Rattle.mcs_explore_walk.specs.declared.walk.Turn.{Turn}
use Rattle.mcs_explore_walk.specs.Walks.{last_answer}
use Rattle.mcs_explore_orders.specs.Shown.{AreCounted, AreShown, Shown}
use Rattle.mcs_explore_orders.specs.Trails.{Leads}
use Rattle.mcs_explore_report.specs.declared.answers.Witness.{Witness}
use Rattle.mcs_explore_questions.specs.declared.questions.Asked.{Asked}
use Rattle.mcs_explore_script.specs.declared.questions.AskedLine.{AskedLine}
use Rattle.mcs_explore_report.specs.declared.judgement.Sighting.{Sighting}
use Rattle.mcs_explore_report.specs.Standings.{standings}
use Rattle.mcs_explore_report.specs.Ends.{HasKind, Kind}
use Rattle.mcs_explore_report.specs.Judging.{fails}
use Rattle.mcs_explore_report.specs.Answers.{IsAmong, IsEntry, IsMailed, Tables, table_of}

-- the path of a place leads to this state
abbrev pub IsAt : {K : Type 0} → List User → Boot → Entries K Turn → ℕ → RunState → Type 0
IsAt users boot found place g = Path (Leads users) (beginning users boot) (path_of found place) g

-- the state in the place of a kind of ends is over, and the users have the standings of the kind in
-- it
pub record IsEndFound {K : Type 0} (users : List User) (boot : Boot) (found : Entries K Turn) (done : ℕ) (k : Kind) : Type 0 where
  pub within : k.place < done
  pub run_state : RunState
  pub is : IsAt users boot found k.place run_state
  pub over : IsOver users run_state
  pub standing : standings users run_state ≡ k.standing

-- each kind of ends is that of a state that was expanded, no two are the same, and each such state
-- that is over is of one of them
pub record AreEndsFound {K : Type 0} (users : List User) (boot : Boot) (found : Entries K Turn) (done : ℕ) (kinds : List Kind) : Type 0 where
  pub each : (i : ℕ) (k : Kind) → slice_get kinds i ≡ Some k → IsEndFound users boot found done k
  pub all : (place : ℕ) (g : RunState) → place < done → IsAt users boot found place g → IsOver users g → HasKind kinds (standings users g)
  pub apart : (i j : ℕ) (k l : Kind) → slice_get kinds i ≡ Some k → slice_get kinds j ≡ Some l → k.standing ≡ l.standing → i ≡ j

-- the entry itself was answered so by its turn
pub record IsAnswered (t : Turn) (h : RunState) (i n : ℕ) (a : Answer) : Type 0 where
  pub user : t.pick.user ≡ i
  pub number : t.pick.number ≡ n
  pub answer : last_answer h.book ≡ Some a

-- the rule has the turn of an answer from the state in its place: the entry was answered so, or
-- waited, and this reached it
pub record IsAnswerFound {K : Type 0} (users : List User) (boot : Boot) (found : Entries K Turn) (done user number : ℕ) (t : Witness) : Type 0 where
  pub within : t.place < done
  pub state : RunState
  pub run_state : RunState
  pub at : IsAt users boot found t.place state
  pub turn : Leads users t.turn state run_state
  pub is : IsAnswered t.turn run_state user number t.answer ⊎ IsMailed users state.places run_state user number t.turn t.answer

-- each entry has answers, each of them is that of a turn from a state that was expanded, and what
-- each such turn was answered but Waits is among those of its entry
pub record AreAnswersFound {K : Type 0} (users : List User) (boot : Boot) (found : Entries K Turn) (done : ℕ) (tables : Tables) : Type 0 where
  pub entries : (user number : ℕ) → IsEntry users user number → (witnesses : List Witness) × (table_of tables user number ≡ Some witnesses)
  pub each : (user number : ℕ) (witnesses : List Witness) (i : ℕ) (t : Witness) → table_of tables user number ≡ Some witnesses → slice_get witnesses i ≡ Some t → IsAnswerFound users boot found done user number t
  pub all : (place : ℕ) (t : Turn) (g h : RunState) (a : Answer) (witnesses : List Witness) → place < done → IsAt users boot found place g → Leads users t g h → last_answer h.book ≡ Some a → (a ≡ answer.Waits → ⊥)
      → table_of tables t.pick.user t.pick.number ≡ Some witnesses → IsAmong witnesses a

-- what each turn from an expanded state delivered to an entry that waited is among the answers of
-- that entry
abbrev pub IsMailFound : {K : Type 0} → List User → Boot → Entries K Turn → ℕ → Tables → Type 0
IsMailFound users boot found done tables = (place : ℕ) (t : Turn) (g h : RunState) (user number : ℕ) (a : Answer) (witnesses : List Witness) → place < done → IsAt users boot found place g → Leads users t g h → IsMailed users g.places h user number t a
    → table_of tables user number ≡ Some witnesses → IsAmong witnesses a

-- each run of users that is over ends as one of these kinds says
abbrev pub AreEndsInRuns : List User → Boot → List Kind → Type 0
AreEndsInRuns users boot kinds = (n : ℕ) (g : RunState) → IsRun users boot n g → IsOver users g → HasKind kinds (standings users g)

-- this answer is among those of an entry
pub record IsKeptOf (tables : Tables) (user number : ℕ) (a : Answer) : Type 0 where
  pub witnesses : List Witness
  pub at : table_of tables user number ≡ Some witnesses
  pub among : IsAmong witnesses a

-- each answer of each turn of each run, unless Waits, and what the turn delivered to an entry that
-- waited, is among the answers of its entry
pub record AreAnswersInRuns (users : List User) (boot : Boot) (tables : Tables) : Type 0 where
  pub own : (n : ℕ) (t : Turn) (g h : RunState) (a : Answer) → IsRun users boot n g → Leads users t g h → last_answer h.book ≡ Some a → (a ≡ answer.Waits → ⊥) → IsKeptOf tables t.pick.user t.pick.number a
  pub mail : (n : ℕ) (t : Turn) (g h : RunState) (user number : ℕ) (a : Answer) → IsRun users boot n g → Leads users t g h → IsMailed users g.places h user number t a → IsKeptOf tables user number a

-- this many turns lead from states that were expanded, and this many of these are over, as far as a
-- count goes
pub record AreCountedFound {K : Type 0} (users : List User) (boot : Boot) (found : Entries K Turn) (done : ℕ) (made over : ℕ) : Type 0 where
  pub shown : Shown
  pub are : AreShown users (beginning users boot) (paths_below found done) shown
  pub counted : AreCounted shown made over

-- a state itself, or what a turn from it leads to
abbrev pub IsSeenFrom : List User → RunState → Option Turn → RunState → Type 0
IsSeenFrom users g None h = g ≡ h
IsSeenFrom users g (Some t) h = Leads users t g h

-- a question fails in the state in a place that was expanded, or by a turn from it
pub record IsFailureFound {K : Type 0} (users : List User) (boot : Boot) (found : Entries K Turn) (done : ℕ) (q : Asked) (seen : Sighting) : Type 0 where
  pub within : seen.place < done
  pub state : RunState
  pub at : IsAt users boot found seen.place state
  pub run_state : RunState
  pub is : IsSeenFrom users state seen.turn run_state
  pub fails : fails users q seen.turn run_state ≡ true

-- a question fails in no state that was expanded, and by no turn from one
pub record IsHeldFound {K : Type 0} (users : List User) (boot : Boot) (found : Entries K Turn) (done : ℕ) (q : Asked) : Type 0 where
  pub states : (place : ℕ) (g : RunState) → place < done → IsAt users boot found place g → fails users q None g ≡ false
  pub turns : (place : ℕ) (t : Turn) (g h : RunState) → place < done → IsAt users boot found place g → Leads users t g h → fails users q (Some t) h ≡ false

-- a question failed where it says, and if it does not say so, nowhere
abbrev pub IsJudgedFound : {K : Type 0} → List User → Boot → Entries K Turn → ℕ → Asked → Option Sighting → Type 0
IsJudgedFound users boot found done q None = IsHeldFound users boot found done q
IsJudgedFound users boot found done q (Some seen) = IsFailureFound users boot found done q seen

-- each question is judged rightly over all that was found
pub record AreJudgedFound {K : Type 0} (users : List User) (boot : Boot) (found : Entries K Turn) (done : ℕ) (questions : List AskedLine) (failed : List (Option Sighting)) : Type 0 where
  pub long : length failed ≡ length questions
  pub each : (i : ℕ) (q : AskedLine) (f : Option Sighting) → slice_get questions i ≡ Some q → slice_get failed i ≡ Some f → IsJudgedFound users boot found done q.asked f

-- a turn from a state to another gave an entry this answer: its own, but Waits, or what reached it
abbrev pub IsGiven : List User → Turn → RunState → RunState → ℕ → ℕ → Answer → Type 0
IsGiven users t g h user number a = (IsAnswered t h user number a × (a ≡ answer.Waits → ⊥)) ⊎ IsMailed users g.places h user number t a

-- each end, each answer and each failure is kept in the first place that has one like it
pub record AreFirstFound {K : Type 0} (users : List User) (boot : Boot) (found : Entries K Turn) (done : ℕ) (questions : List AskedLine) (kinds : List Kind) (tables : Tables) (failed : List (Option Sighting)) : Type 0 where
  pub ends : (i place : ℕ) (k : Kind) (g : RunState) → slice_get kinds i ≡ Some k → place < done → IsAt users boot found place g → IsOver users g → standings users g ≡ k.standing → k.place ≤ place
  pub answers : (user number i place : ℕ) (witnesses : List Witness) (t : Witness) (u : Turn) (g h : RunState) → table_of tables user number ≡ Some witnesses → slice_get witnesses i ≡ Some t → place < done → IsAt users boot found place g → Leads users u g h
      → IsGiven users u g h user number t.answer → t.place ≤ place
  pub failures : (i place : ℕ) (q : AskedLine) (seen : Sighting) (t : Option Turn) (g h : RunState) → slice_get questions i ≡ Some q → slice_get failed i ≡ Some (Some seen) → place < done → IsAt users boot found place g → IsSeenFrom users g t h
      → fails users q.asked t h ≡ true → seen.place ≤ place

-- a question fails in no run of users: in no state, and by no turn
pub record IsHeldInRuns (users : List User) (boot : Boot) (q : Asked) : Type 0 where
  pub states : (n : ℕ) (g : RunState) → IsRun users boot n g → fails users q None g ≡ false
  pub turns : (n : ℕ) (t : Turn) (g h : RunState) → IsRun users boot n g → Leads users t g h → fails users q (Some t) h ≡ false

-- no run in which there is an end, an answer or a failure like one that is kept has fewer turns
-- than lead to that
pub record AreShortest {K : Type 0} (users : List User) (boot : Boot) (found : Entries K Turn) (questions : List AskedLine) (kinds : List Kind) (tables : Tables) (failed : List (Option Sighting)) : Type 0 where
  pub ends : (i n : ℕ) (k : Kind) (g : RunState) → slice_get kinds i ≡ Some k → IsRun users boot n g → IsOver users g → standings users g ≡ k.standing → depth_at found k.place ≤ n
  pub answers : (user number i n : ℕ) (witnesses : List Witness) (t : Witness) (u : Turn) (g h : RunState) → table_of tables user number ≡ Some witnesses → slice_get witnesses i ≡ Some t → IsRun users boot n g → Leads users u g h
      → IsGiven users u g h user number t.answer → depth_at found t.place ≤ n
  pub failures : (i n : ℕ) (q : AskedLine) (seen : Sighting) (t : Option Turn) (g h : RunState) → slice_get questions i ≡ Some q → slice_get failed i ≡ Some (Some seen) → IsRun users boot n g → IsSeenFrom users g t h
      → fails users q.asked t h ≡ true → depth_at found seen.place ≤ n

-- each question that did not fail holds in all runs
abbrev pub AreHeldInRuns : List User → Boot → List AskedLine → List (Option Sighting) → Type 0
AreHeldInRuns users boot questions failed = (i : ℕ) (q : AskedLine) → slice_get questions i ≡ Some q → slice_get failed i ≡ Some None → IsHeldInRuns users boot q.asked
