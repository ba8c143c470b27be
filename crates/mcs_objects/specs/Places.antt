-- Places of objects in lists: an object of serial n has the place n - 1.
use Rattle.std.specs.Prelude.{◌≡◌, [], ◌∷◌, ℕ, ◌<◌, List, length, Option, Some, None, slice_index_or}
use Rattle.mcs_types.specs.declared.id.ObjId.{ObjId}
use Rattle.mcs_types.specs.declared.id.Kind.{Kind}
use Rattle.mcs_types.specs.Ids.{place_of, ChangesAt}

-- what is kept at a place, if it is one
abbrev pub kept_in : {A : Type 0} → List (Option A) → Option ℕ → Option A
kept_in places None = None
kept_in places (Some n) = slice_index_or places n None

-- what is kept of an object of a kind
abbrev pub kept_at : {A : Type 0} → Kind → List (Option A) → ObjId → Option A
kept_at kind places x = kept_in places (place_of kind x)

-- this is kept of one object of a kind now, and of every other what was
abbrev pub KeepsAt : {A : Type 0} → Kind → List (Option A) → List (Option A) → ObjId → Option A → Type 0
KeepsAt kind old new id kept = ChangesAt (kept_at kind old) (kept_at kind new) id kept

-- a place is within a list
abbrev pub IsWithin : Option ℕ → ℕ → Type 0
IsWithin None len = ⊥
IsWithin (Some n) len = n < len

-- a list has a place for an object of a kind
abbrev pub HasPlace : {A : Type 0} → Kind → List (Option A) → ObjId → Type 0
HasPlace kind places x = IsWithin (place_of kind x) (length places)

-- nothing is kept at any place of a list
abbrev pub AreEmpty : {A : Type 0} → List (Option A) → Type 0
AreEmpty [] = Unit {0}
AreEmpty (x ∷ xs) = (x ≡ None) × AreEmpty xs
