-- From which places edges lead on to marked ones (own).
use Rattle.std.specs.Prelude.{◌≡◌, ◌≤◌, ◌<◌, ◌+◌, ◌-◌, ◌↔◌, ◌&&◌, ℕ, Bool, true, false, not, cond, List, Some, get_or, set, length, slice_get, sum_by}
use Rattle.std.specs.Int.{from_bool}
use Rattle.mcs_explore_search.specs.declared.search.Edge.{Edge}
use Rattle.mcs_explore_search.specs.Paths.{Run}

-- whether a place is marked
abbrev pub is_marked : List Bool → ℕ → Bool
is_marked marks i = get_or marks i false

-- an edge leads from a place to another
pub record IsLink {L : Type 0} (edges : List (Edge L)) (i j : ℕ) : Type 0 where
  pub number : ℕ
  pub edge : Edge L
  pub at : slice_get edges number ≡ Some edge
  pub from : edge.from ≡ i
  pub to : edge.to ≡ j

-- edges lead from a place on to a marked one
pub record IsLed {L : Type 0} (edges : List (Edge L)) (marks : List Bool) (i : ℕ) : Type 0 where
  pub steps : ℕ
  pub end : ℕ
  pub run : Run (IsLink edges) i steps end
  pub marked : is_marked marks end ≡ true

-- edges lead from a place on to one of n places that is not below d
pub record LeadsOut {L : Type 0} (edges : List (Edge L)) (d n i : ℕ) : Type 0 where
  pub steps : ℕ
  pub end : ℕ
  pub run : Run (IsLink edges) i steps end
  pub beyond : d ≤ end
  pub within : end < n

-- each edge is between two of the first n places
abbrev pub AreWithin : {L : Type 0} → List (Edge L) → ℕ → Type 0
AreWithin {L = L} edges n = (k : ℕ) (e : Edge L) → slice_get edges k ≡ Some e → (e.from < n) × (e.to < n)

-- whether an edge leads from a place that is not marked to one that is
abbrev pub joins : {L : Type 0} → Edge L → List Bool → Bool
joins e marks = is_marked marks e.to && not (is_marked marks e.from)

-- the marks with that of an edge
abbrev pub marked : {L : Type 0} → Edge L → List Bool → List Bool
marked e marks = cond (joins e marks) (set marks e.from true) marks

-- how many places are not marked
abbrev pub unmarked : List Bool → ℕ
unmarked marks = sum_by (λ b. from_bool (not b)) marks

-- an edge to a marked place comes from a marked one
abbrev pub IsShut : {L : Type 0} → List Bool → Edge L → Type 0
IsShut marks e = is_marked marks e.to ≡ true → is_marked marks e.from ≡ true

-- marks after the last n edges were gone through, which has added this many
pub record IsSweeping {L : Type 0} (edges : List (Edge L)) (old new : List Bool) (added n : ℕ) : Type 0 where
  pub long : length new ≡ length old
  pub kept : (i : ℕ) → is_marked old i ≡ true → is_marked new i ≡ true
  pub led : (i : ℕ) → is_marked new i ≡ true → IsLed edges old i
  pub count : unmarked new + added ≡ unmarked old
  pub few : added ≤ n
  pub shut : added ≡ 0 → (k : ℕ) (e : Edge L) → length edges ≤ k + n → slice_get edges k ≡ Some e → IsShut new e

-- the places from which edges lead on to marked ones are marked, and no others
pub record AreAllLed {L : Type 0} (edges : List (Edge L)) (old new : List Bool) : Type 0 where
  pub long : length new ≡ length old
  pub each : (i : ℕ) → (is_marked new i ≡ true) ↔ IsLed edges old i
