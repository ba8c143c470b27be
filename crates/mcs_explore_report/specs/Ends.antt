-- The kinds of ends (own).
use Rattle.std.specs.Prelude.{ℕ, ◌≡◌, ◌<◌, ◌+◌, ◌-◌, ◌^◌, ◌++◌, ◌⊎◌, Bool, true, false, min, List, [], ◌∷◌, Some, length, set, slice_get}
use Rattle.mcs_book.specs.Boots.{Boot}
use Rattle.mcs_turns.specs.Turns.{User, RunState, IsOver, IsRun}
use Rattle.mcs_explore_report.specs.declared.ends.Standing.{Standing}
use Rattle.mcs_explore_orders.specs.Shown.{SeenState}
use Rattle.mcs_explore_report.specs.Standings.{standings}

-- the standings of the users, in how many states they have these, and the place of the first of
-- them
pub record Kind : Type 0 where
  pub standing : List Standing
  pub count : ℕ
  pub place : ℕ

-- the kind in a place is that with these standings
pub record IsKindAt (kinds : List Kind) (standing : List Standing) (i : ℕ) : Type 0 where
  pub kind : Kind
  pub at : slice_get kinds i ≡ Some kind
  pub same : kind.standing ≡ standing

-- none of the first n kinds has this standing
abbrev pub IsNoKind : List Kind → List Standing → ℕ → Type 0
IsNoKind kinds standing n = (i : ℕ) (k : Kind) → i < n → slice_get kinds i ≡ Some k → k.standing ≡ standing → ⊥

-- this many ends more; counts end with the largest
abbrev pub with_more : Kind → ℕ → Kind
with_more k n = record k { count = min (k.count + n) (2 ^ 64 - 1) }

-- ends of a kind that is there are counted
pub record IsCounted (more : Kind) (old new : List Kind) : Type 0 where
  pub place : ℕ
  pub is : IsKindAt old more.standing place
  pub counted : new ≡ set old place (with_more is.kind more.count)

-- ends of a new kind are added
pub record IsFirst (more : Kind) (old new : List Kind) : Type 0 where
  pub none : IsNoKind old more.standing (length old)
  pub added : new ≡ old ++ more ∷ []

-- ends of a kind are counted or added
abbrev pub IsMerged : Kind → List Kind → List Kind → Type 0
IsMerged more old new = IsCounted more old new ⊎ IsFirst more old new

-- one end is
abbrev pub IsNoted : List Standing → ℕ → List Kind → List Kind → Type 0
IsNoted standing place old new = IsMerged (record { standing = standing; count = 1; place = place }) old new

-- the end in a state that is over is noted, and nothing of another
abbrev pub IsNotedIf : Bool → List Standing → ℕ → List Kind → List Kind → Type 0
IsNotedIf over standing place old new = ((over ≡ false) × (new ≡ old)) ⊎ ((over ≡ true) × IsNoted standing place old new)

-- one of the kinds has these standings
abbrev pub HasKind : List Kind → List Standing → Type 0
HasKind kinds standing = (i : ℕ) × IsKindAt kinds standing i

-- the first n of these kinds were added to others: each of both is there, and no other
pub record AreMergedBelow (more old new : List Kind) (n : ℕ) : Type 0 where
  pub kept : (standing : List Standing) → HasKind old standing → HasKind new standing
  pub added : (i : ℕ) (k : Kind) → i < n → slice_get more i ≡ Some k → HasKind new k.standing
  pub only : (standing : List Standing) → HasKind new standing → HasKind old standing ⊎ HasKind more standing

-- all of them were
abbrev pub AreMerged : List Kind → List Kind → List Kind → Type 0
AreMerged more old new = AreMergedBelow more old new (length more)

-- the kinds of two lists, and no other
pub record AreAllEnds (ks ds ends : List Kind) : Type 0 where
  pub kept : (i : ℕ) (k : Kind) → slice_get ks i ≡ Some k → HasKind ends k.standing
  pub deep : (i : ℕ) (k : Kind) → slice_get ds i ≡ Some k → HasKind ends k.standing
  pub only : (standing : List Standing) → HasKind ends standing → HasKind ks standing ⊎ HasKind ds standing

-- some run is over in which the users have these standings
pub record IsRunEnd (users : List User) (boot : Boot) (standing : List Standing) : Type 0 where
  pub turns : ℕ
  pub state : RunState
  pub run : IsRun users boot turns state
  pub over : IsOver users state
  pub is : standings users state ≡ standing

-- of each of these kinds there is one
abbrev pub AreRunEnds : List User → Boot → List Kind → Type 0
AreRunEnds users boot kinds = (standing : List Standing) → HasKind kinds standing → IsRunEnd users boot standing

-- the kind is that of a state that was shown and is over
pub record IsEndOf (users : List User) (states : List SeenState) (k : Kind) : Type 0 where
  pub number : ℕ
  pub sight : SeenState
  pub at : slice_get states number ≡ Some sight
  pub over : sight.is_over ≡ true
  pub place : sight.place ≡ k.place
  pub standing : standings users sight.run_state ≡ k.standing

-- each kind is that of a state that was shown and is over, no two are the same, and each such state
-- is of one of them
pub record AreEndsOf (users : List User) (states : List SeenState) (kinds : List Kind) : Type 0 where
  pub each : (i : ℕ) (k : Kind) → slice_get kinds i ≡ Some k → IsEndOf users states k
  pub all : (j : ℕ) (s : SeenState) → slice_get states j ≡ Some s → s.is_over ≡ true → HasKind kinds (standings users s.run_state)
  pub apart : (i j : ℕ) (k l : Kind) → slice_get kinds i ≡ Some k → slice_get kinds j ≡ Some l → k.standing ≡ l.standing → i ≡ j
