-- Whether entries of users can be answered yet (own).
use Rattle.std.specs.Prelude.{ℕ, ◌≡◌, ◌==◌, ◌&&◌, ◌||◌, ◌++◌, ◌⊎◌, ◌<◌, ◌-◌, Bool, true, false, not, cond, flat_map, map, nat_le, nat_lt, min, replicate, set, take, List, [], ◌∷◌, Option, Some, None, length, slice_get}
use Rattle.std.specs.List.{list_any}
use Rattle.mcs_types.specs.declared.entry.Answer.{Answer}
use Rattle.mcs_types.specs.declared.entry.Answer.TheVariants as answer
use Rattle.mcs_book.specs.Boots.{Boot}
use Rattle.mcs_turns.specs.declared.position.Position.{Position}
use Rattle.mcs_turns.specs.declared.position.Pick.{Pick}
use Rattle.mcs_turns.specs.Turns.{User, RunState, Follows, IsRun, is_program}
use Rattle.mcs_explore_search.specs.declared.search.Edge.{Edge}
use Rattle.mcs_explore_search.specs.Paths.{Run}
use Rattle.mcs_explore_search.specs.Reaching.{IsLed}
use Rattle.mcs_explore_search.specs.Search.{Entries}
use Rattle.mcs_explore_walk.specs.declared.walk.Turn.{Turn}
use Rattle.mcs_explore_walk.specs.Walks.{last_answer}
use Rattle.mcs_explore_orders.specs.Shown.{Made, Shown, SeenState}
use Rattle.mcs_explore_orders.specs.Trails.{Leads}
use Rattle.mcs_explore_script.specs.declared.lives.Live.{Live}
use Rattle.mcs_turns.specs.declared.reached.Reached.{Reached}
use Rattle.mcs_explore_report.specs.Answers.{mailed_to}
use Rattle.mcs_explore_report.specs.Found.{IsAt}
use Rattle.mcs_explore_report.specs.Judging.{answered}
use Rattle.mcs_turns.specs.Mail.{brought}

-- whether a list that continues with this entry after its last comes to another one again
abbrev pub comes_again : Option ℕ → ℕ → Bool
comes_again None e = false
comes_again (Some first) e = nat_le first e

-- whether a user that was answered this many entries was answered what is asked for, and does not
-- come back to it; of an entry of a program that is not known
abbrev pub settled_by : User → Option ℕ → ℕ → Bool
settled_by u None count = nat_le (length u.entries) count
settled_by u (Some e) count = not (is_program u.ops) && (nat_lt e count && not (comes_again u.again e))

-- whether the user of a question has been answered what is asked for; true if there is no such user
abbrev pub is_settled : List User → Live → RunState → Bool
is_settled users l g = elim (slice_get users l.user) [ None ↦ true | Some u ↦ settled_by u l.entry (answered users g l.user) ]

-- whether a question is about an entry of a user
abbrev pub is_about : Live → Pick → Bool
is_about l k = (k.user == l.user) && elim l.entry [ None ↦ true | Some e ↦ k.number == e ]

-- whether what reached a thread is the result of an entry that is asked about
abbrev pub is_mailed : List User → List Position → Turn → Live → Reached → Bool
is_mailed users from t l r = elim (mailed_to users from t r) [ None ↦ false | Some k ↦ is_about l k ]

-- whether an answer is Waits
abbrev pub is_waits : Answer → Bool
is_waits answer.Waits = true
is_waits _ = false

-- whether a turn from these positions, which delivered this to threads, answers an entry that is
-- asked about: its own, or one that waited
abbrev pub answers : List User → Live → Turn → Answer → List Position → List Reached → Bool
answers users l t a from rs = (is_about l t.pick && not (is_waits a)) || list_any (is_mailed users from t l) rs

-- whether a turn from a state to another does, by the newest line of its book
abbrev pub answers_last : List User → Live → Turn → RunState → RunState → Bool
answers_last users l t g h = elim (last_answer h.book) [ None ↦ false | Some a ↦ answers users l t a g.places (brought h.book) ]

-- what is asked about is settled in a state, or a turn from it answers it
abbrev pub IsNear : List User → Live → RunState → Type 0
IsNear users l g = (is_settled users l g ≡ true) ⊎ ((t : Turn) × ((h : RunState) × (Leads users t g h × (answers_last users l t g h ≡ true))))

-- a run leads from a state to one where what is asked about is settled, or to a turn that answers
-- it
pub record IsLive (users : List User) (l : Live) (g : RunState) : Type 0 where
  pub turns : ℕ
  pub run_state : RunState
  pub run : Run (Follows users) g turns run_state
  pub near : IsNear users l run_state

-- what is noted of a question: whether it was settled in each state that was shown, and the places
-- from which a turn answered it
pub record Noted : Type 0 where
  pub settled : List Bool
  pub answered : List ℕ

-- questions, and what is noted of each
pub record Asking : Type 0 where
  pub lives : List Live
  pub notes : List Noted

-- with a state more, and with a turn more
abbrev pub with_sight : List User → RunState → Live → Noted → Noted
with_sight users g l n = record n { settled = n.settled ++ is_settled users l g ∷ [] }

abbrev pub with_made : List User → ℕ → Turn → Answer → List Position → List Reached → Live → Noted → Noted
with_made users place t a from rs l n = record n { answered = n.answered ++ cond (answers users l t a from rs) (place ∷ []) [] }

-- what is noted of each question is changed so
pub record AreNotedOn (change : Live → Noted → Noted) (lives : List Live) (old new : List Noted) : Type 0 where
  pub long : length new ≡ length old
  pub each : (i : ℕ) (l : Live) (n : Noted) → slice_get lives i ≡ Some l → slice_get old i ≡ Some n → slice_get new i ≡ Some (change l n)

-- what is noted of a question is what was shown
pub record IsNotedBy (users : List User) (shown : Shown) (l : Live) (n : Noted) : Type 0 where
  pub settled : n.settled ≡ map (λ (s : SeenState). is_settled users l s.run_state) shown.states
  pub answered : n.answered ≡ flat_map (λ (m : Made). cond (answers users l m.turn m.answer m.from (brought m.run_state.book)) (m.place ∷ []) []) shown.turns

-- each question has its notes
pub record AreNotedBy (users : List User) (lives : List Live) (shown : Shown) (notes : List Noted) : Type 0 where
  pub long : length notes ≡ length lives
  pub each : (i : ℕ) (l : Live) (n : Noted) → slice_get lives i ≡ Some l → slice_get notes i ≡ Some n → IsNotedBy users shown l n

-- a mark in a place, if there is one, and in each of these places
abbrev pub with_mark : ℕ → List Bool → List Bool
with_mark place marks = cond (nat_lt place (length marks)) (set marks place true) marks

abbrev pub with_marks : List ℕ → List Bool → List Bool
with_marks [] marks = marks
with_marks (p ∷ ps) marks = with_marks ps (with_mark p marks)

-- the marks of this many places: where a question is settled or a turn answers it, and those that
-- were not expanded
abbrev pub first_marks : ℕ → Noted → List Bool
first_marks states n = with_marks n.answered (take (min (length n.settled) states) n.settled ++ replicate (states - min (length n.settled) states) true)

-- the first place from which no edges lead to a marked one; none if edges do so from each
abbrev pub IsFirstUnled : List (Edge Turn) → List Bool → Option ℕ → Type 0
IsFirstUnled edges marks None = (i : ℕ) → i < length marks → IsLed edges marks i
IsFirstUnled edges marks (Some place) = (place < length marks) × ((IsLed edges marks place → ⊥) × ((i : ℕ) → i < place → IsLed edges marks i))

-- the first place, of all that were found, from which no run leads to an answer
pub record IsStuckAt {K : Type 0} (users : List User) (boot : Boot) (l : Live) (found : Entries K Turn) (place : ℕ) : Type 0 where
  pub within : place < length found
  pub stuck : (g : RunState) → IsAt users boot found place g → IsLive users l g → ⊥
  pub before : (i : ℕ) (g : RunState) → i < place → IsAt users boot found i g → IsLive users l g

abbrev pub IsStuckFirst : {K : Type 0} → List User → Boot → Live → Entries K Turn → Option ℕ → Type 0
IsStuckFirst users boot l found None = (n : ℕ) (g : RunState) → IsRun users boot n g → IsLive users l g
IsStuckFirst users boot l found (Some place) = IsStuckAt users boot l found place

-- for each user, the first place from which no edges lead to an answer is where it is stuck first;
-- if there is none, it is never stuck
pub record AreDecided {K : Type 0} (users : List User) (boot : Boot) (lives : List Live) (found : Entries K Turn) (edges : List (Edge Turn)) (notes : List Noted) : Type 0 where
  pub long : length notes ≡ length lives
  pub each : (i : ℕ) (l : Live) (n : Noted) (o : Option ℕ) → slice_get lives i ≡ Some l → slice_get notes i ≡ Some n → IsFirstUnled edges (first_marks (length found) n) o → IsStuckFirst users boot l found o

-- if no edges lead from a place that was found to what is noted, no run does, even if some states
-- were not expanded
pub record AreStuckUnled {K : Type 0} (users : List User) (boot : Boot) (lives : List Live) (found : Entries K Turn) (edges : List (Edge Turn)) (notes : List Noted) : Type 0 where
  pub long : length notes ≡ length lives
  pub each : (i : ℕ) (l : Live) (n : Noted) (place : ℕ) (g : RunState) → slice_get lives i ≡ Some l → slice_get notes i ≡ Some n → place < length found → (IsLed edges (first_marks (length found) n) place → ⊥) → IsAt users boot found place g
      → IsLive users l g → ⊥
