-- What a search has seen of a run (own).
use Rattle.std.specs.Prelude.{ℕ, ◌≡◌, ◌≤◌, ◌<◌, ◌⊎◌, Bool, true, List, Some, length, slice_get}
use Rattle.mcs_book.specs.Boots.{Boot, IsFaultless}
use Rattle.mcs_turns.specs.Turns.{User, RunState, AreInRange, Follows, IsRun, beginning}
use Rattle.mcs_explore_search.specs.declared.search.Edge.{Edge}
use Rattle.mcs_explore_search.specs.Paths.{Path, Run}
use Rattle.mcs_explore_search.specs.Reaching.{IsLink, LeadsOut}
use Rattle.mcs_explore_search.specs.Search.{Entries, depth_at, path_of}
use Rattle.mcs_explore_walk.specs.declared.walk.Turn.{Turn}
use Rattle.mcs_explore_equivalence.specs.Runs.{AreAlike}
use Rattle.mcs_explore_orders.specs.Trails.{Leads}

-- the state in a place is that of a run, by as many turns as its depth says, which are those of its
-- path
pub record IsFoundRun {K : Type 0} (users : List User) (boot : Boot) (found : Entries K Turn) (place : ℕ) (g : RunState) : Type 0 where
  pub run : IsRun users boot (depth_at found place) g
  pub path : Path (Leads users) (beginning users boot) (path_of found place) g

-- a search distinguishes states by exact keys; the entries of its users are in their ranges, and
-- its boot has no fault
pub record IsByExactKeys (is_exact : Bool) (users : List User) (boot : Boot) : Type 0 where
  pub exact : is_exact ≡ true
  pub faultless : IsFaultless boot
  pub in_range : AreInRange users

-- a search by exact keys has expanded all that it found
pub record IsAllExpanded {K : Type 0} (is_exact : Bool) (users : List User) (boot : Boot) (done : ℕ) (found : Entries K Turn) : Type 0 where
  pub keys : IsByExactKeys is_exact users boot
  pub all : length found ≤ done

-- each state that was found is reached by a run of the users
abbrev pub AreFoundRuns : {K : Type 0} → List User → Boot → Entries K Turn → Type 0
AreFoundRuns users boot found = (place : ℕ) → place < length found → (g : RunState) × IsFoundRun users boot found place g

-- a state was found, by no more than n turns, that no later turn distinguishes from the end of a
-- run of n turns; the numbers of messages are distinguished or not
pub record IsSeen {K : Type 0} (numbered : Bool) (users : List User) (boot : Boot) (found : Entries K Turn) (n : ℕ) (g : RunState) : Type 0 where
  pub place : ℕ
  pub within : place < length found
  pub run_state : RunState
  pub is : IsFoundRun users boot found place run_state
  pub like : AreAlike numbered users boot g run_state
  pub near : depth_at found place ≤ n

-- each run has its last state among those found
abbrev pub AreAllSeen : {K : Type 0} → Bool → List User → Boot → Entries K Turn → Type 0
AreAllSeen numbered users boot found = (n : ℕ) (g : RunState) → IsRun users boot n g → IsSeen numbered users boot found n g

-- a run of edges from a place, to a state that no later turn distinguishes from this one
pub record IsAlongEdges (numbered : Bool) (users : List User) (boot : Boot) (states : List RunState) (edges : List (Edge Turn)) (i n : ℕ) (k : RunState) : Type 0 where
  pub end : ℕ
  pub state : RunState
  pub there : slice_get states end ≡ Some state
  pub run : Run (IsLink edges) i n end
  pub like : AreAlike numbered users boot k state

-- the turn of an edge leads from the state in its place to one that no later turn distinguishes
-- from the state in its target
pub record IsTurnEdge (numbered : Bool) (users : List User) (boot : Boot) (states : List RunState) (e : Edge Turn) : Type 0 where
  pub from : RunState
  pub at : slice_get states e.from ≡ Some from
  pub to : RunState
  pub there : slice_get states e.to ≡ Some to
  pub after : RunState
  pub turn : Leads users e.label from after
  pub like : AreAlike numbered users boot after to

-- an edge has this turn from a place, to a state that no later turn distinguishes from this one
pub record HasTurnEdge (numbered : Bool) (users : List User) (boot : Boot) (states : List RunState) (edges : List (Edge Turn)) (i : ℕ) (t : Turn) (h : RunState) : Type 0 where
  pub number : ℕ
  pub edge : Edge Turn
  pub at : slice_get edges number ≡ Some edge
  pub from : edge.from ≡ i
  pub turn : edge.label ≡ t
  pub to : RunState
  pub there : slice_get states edge.to ≡ Some to
  pub like : AreAlike numbered users boot h to

-- the edges between the states that were found are the turns of the users, but for likeness: each
-- edge is a turn, and each turn from an expanded state has an edge; each run from a state that is
-- like a found one goes along edges, or these lead to a place that was not expanded; and edges from
-- a found state are a run from each state that is like it
pub record IsGraphOfRuns {K : Type 0} (numbered : Bool) (users : List User) (boot : Boot) (found : Entries K Turn) (done : ℕ) (edges : List (Edge Turn)) : Type 0 where
  pub states : List RunState
  pub long : length states ≡ length found
  pub each : (i : ℕ) (g : RunState) → slice_get states i ≡ Some g → IsFoundRun users boot found i g
  pub turns : (n : ℕ) (e : Edge Turn) → slice_get edges n ≡ Some e → IsTurnEdge numbered users boot states e
  pub all : (i : ℕ) (g h : RunState) (t : Turn) → i < done → slice_get states i ≡ Some g → Leads users t g h → HasTurnEdge numbered users boot states edges i t h
  pub along : (n i : ℕ) (g h k : RunState) → slice_get states i ≡ Some g → AreAlike numbered users boot h g → Run (Follows users) h n k
      → IsAlongEdges numbered users boot states edges i n k ⊎ LeadsOut edges done (length found) i
  pub runs : (n i j : ℕ) (g h k : RunState) → slice_get states i ≡ Some g → slice_get states j ≡ Some k → AreAlike numbered users boot h g → Run (IsLink edges) i n j
      → (m : RunState) × (Run (Follows users) h n m × AreAlike numbered users boot m k)
