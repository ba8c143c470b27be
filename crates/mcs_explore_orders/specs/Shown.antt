-- What a search reports (own).
use Rattle.std.specs.Prelude.{ℕ, ◌≡◌, ◌≤◌, ◌↔◌, ◌+◌, ◌-◌, ◌^◌, ◌++◌, Bool, true, min, List, [], ◌∷◌, Some, length, slice_get}
use Rattle.std.specs.Int.{from_bool}
use Rattle.std.specs.List.{Contains}
use Rattle.mcs_types.specs.declared.entry.Answer.{Answer}
use Rattle.mcs_turns.specs.declared.position.Position.{Position}
use Rattle.mcs_turns.specs.Turns.{User, RunState, IsOver}
use Rattle.mcs_explore_search.specs.Paths.{Path}
use Rattle.mcs_explore_walk.specs.declared.walk.Turn.{Turn}
use Rattle.mcs_explore_walk.specs.Walks.{last_answer}
use Rattle.mcs_explore_orders.specs.Trails.{Leads}

-- the state in a place, and whether it is over
pub record SeenState : Type 0 where
  pub place : ℕ
  pub run_state : RunState
  pub is_over : Bool

-- a turn from the state in a place, what it was answered, how far the users were before it, and the
-- state after it
pub record Made : Type 0 where
  pub place : ℕ
  pub turn : Turn
  pub answer : Answer
  pub from : List Position
  pub run_state : RunState

-- all that was shown, in its order
pub record Shown : Type 0 where
  pub states : List SeenState
  pub turns : List Made

abbrev pub nothing : Shown
nothing = record { states = []; turns = [] }

abbrev pub with_state : ℕ → RunState → Bool → Shown → Shown
with_state place g over shown = record shown { states = shown.states ++ (record { place = place; run_state = g; is_over = over }) ∷ [] }

abbrev pub with_turn : ℕ → Turn → Answer → List Position → RunState → Shown → Shown
with_turn place t a from h shown = record shown { turns = shown.turns ++ (record { place = place; turn = t; answer = a; from = from; run_state = h }) ∷ [] }

-- a shown state is the state to which the path of its place leads
pub record IsStateAt (users : List User) (start : RunState) (paths : List (List Turn)) (i : ℕ) (s : SeenState) : Type 0 where
  pub place : s.place ≡ i
  pub path : List Turn
  pub at : slice_get paths i ≡ Some path
  pub leads : Path (Leads users) start path s.run_state
  pub over : (s.is_over ≡ true) ↔ IsOver users s.run_state

-- a shown turn is a turn of the rule from a state, with its answer
pub record IsTurnFrom (users : List User) (g : RunState) (m : Made) : Type 0 where
  pub leads : Leads users m.turn g m.run_state
  pub from : m.from ≡ g.places
  pub answer : last_answer m.run_state.book ≡ Some m.answer

-- a shown turn starts from the state to which the path of its place leads
pub record IsTurnOf (users : List User) (start : RunState) (paths : List (List Turn)) (m : Made) : Type 0 where
  pub path : List Turn
  pub at : slice_get paths m.place ≡ Some path
  pub state : RunState
  pub leads : Path (Leads users) start path state
  pub turn : IsTurnFrom users state m

-- a turn is among those shown from the state in a place
pub record IsShown (turns : List Made) (i : ℕ) (t : Turn) (h : RunState) : Type 0 where
  pub number : ℕ
  pub made : Made
  pub at : slice_get turns number ≡ Some made
  pub place : made.place ≡ i
  pub turn : made.turn ≡ t
  pub run_state : made.run_state ≡ h

-- each state to which one of these paths leads was shown once, in their order, and each turn of the
-- rule from it, those from earlier states first; and no other
pub record AreShown (users : List User) (start : RunState) (paths : List (List Turn)) (shown : Shown) : Type 0 where
  pub long : length shown.states ≡ length paths
  pub states : (i : ℕ) (s : SeenState) → slice_get shown.states i ≡ Some s → IsStateAt users start paths i s
  pub turns : (j : ℕ) (m : Made) → slice_get shown.turns j ≡ Some m → IsTurnOf users start paths m
  pub all : (i : ℕ) (path : List Turn) (g h : RunState) (t : Turn) → slice_get paths i ≡ Some path → Path (Leads users) start path g → Leads users t g h → IsShown shown.turns i t h
  pub sorted : (j k : ℕ) (m n : Made) → j ≤ k → slice_get shown.turns j ≡ Some m → slice_get shown.turns k ≡ Some n → m.place ≤ n.place

-- what was reported of these turns from a state: each that the rule has, and no other
pub record AreShownOf (users : List User) (i : ℕ) (g : RunState) (ts : List Turn) (made : List Made) : Type 0 where
  pub place : (j : ℕ) (m : Made) → slice_get made j ≡ Some m → m.place ≡ i
  pub turns : (j : ℕ) (m : Made) → slice_get made j ≡ Some m → IsTurnFrom users g m
  pub all : (t : Turn) (h : RunState) → Contains ts t → Leads users t g h → IsShown made i t h

-- after these turns, more than was reported before
abbrev pub with_turns : List Made → Shown → Shown
with_turns made shown = record shown { turns = shown.turns ++ made }

-- a watch that has seen what the search has shown so far
pub record HasSeenAll {W : Type 0} (Has : W → List User → Shown → Type 0) (watch : W) (users : List User) (start : RunState) (paths : List (List Turn)) : Type 0 where
  pub shown : Shown
  pub has : Has watch users shown
  pub are : AreShown users start paths shown

-- how many of these states are over
abbrev pub ends_in : List SeenState → ℕ
ends_in [] = 0
ends_in (s ∷ ss) = from_bool s.is_over + ends_in ss

-- counts of the turns that were shown, and of the states that are over; both end with the largest
pub record AreCounted (shown : Shown) (made over : ℕ) : Type 0 where
  pub turns : made ≡ min (length shown.turns) (2 ^ 64 - 1)
  pub ends : over ≡ min (ends_in shown.states) (2 ^ 64 - 1)

-- a watch, and how many turns and ends were counted
pub record Counting (W : Type 0) : Type 0 where
  pub watch : W
  pub turns : ℕ
  pub ends : ℕ

-- a watch that has seen this, and what was counted of it
pub record HasCounted {W : Type 0} (Has : W → List User → Shown → Type 0) (c : Counting W) (users : List User) (shown : Shown) : Type 0 where
  pub has : Has c.watch users shown
  pub counted : AreCounted shown c.turns c.ends

-- a watch that is shown one more state
abbrev pub SeesState : {W : Type 0} → (W → List User → Shown → Type 0) → W → W → List User → ℕ → RunState → Bool → Type 0
SeesState Has old new users place g over = (shown : Shown) → Has old users shown → Has new users (with_state place g over shown)

-- a watch that is shown one more turn
abbrev pub SeesTurn : {W : Type 0} → (W → List User → Shown → Type 0) → W → W → List User → ℕ → Turn → Answer → List Position → RunState → Type 0
SeesTurn Has old new users place t a from h = (shown : Shown) → Has old users shown → Has new users (with_turn place t a from h shown)

-- a watch that is shown the state in a place, and whether it is over
pub record IsShownState {W : Type 0} (Has : W → List User → Shown → Type 0) (old new : W) (users : List User) (place : ℕ) (g : RunState) : Type 0 where
  pub is_over : Bool
  pub over : (is_over ≡ true) ↔ IsOver users g
  pub sees : SeesState Has old new users place g is_over

-- a watch that is shown a turn from a state, and its answer
pub record IsShownTurn {W : Type 0} (Has : W → List User → Shown → Type 0) (old new : W) (users : List User) (place : ℕ) (t : Turn) (g : RunState) : Type 0 where
  pub answer : Answer
  pub run_state : RunState
  pub is : IsTurnFrom users g (record { place = place; turn = t; answer = answer; from = g.places; run_state = run_state })
  pub sees : SeesTurn Has old new users place t answer g.places run_state

-- a watch that is shown one more of these turns, if the rule has it
abbrev pub TellsOn : {W : Type 0} → (W → List User → Shown → Type 0) → W → W → List User → ℕ → RunState → Turn → Type 0
TellsOn Has old new users place g t = (shown : Shown) (ts : List Turn) (made : List Made) → Has old users (with_turns made shown) → AreShownOf users place g ts made
    → (more : List Made) × (Has new users (with_turns more shown) × AreShownOf users place g (ts ++ t ∷ []) more)

-- a watch that is shown each of these turns that the rule has
abbrev pub Tells : {W : Type 0} → (W → List User → Shown → Type 0) → W → W → List User → ℕ → RunState → List Turn → Type 0
Tells Has old new users place g ts = (shown : Shown) → Has old users shown → (made : List Made) × (Has new users (with_turns made shown) × AreShownOf users place g ts made)
