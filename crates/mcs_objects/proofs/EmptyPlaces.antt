-- Places at which nothing is kept.
use Rattle.std.specs.Prelude.{ℕ, zero, suc, ◌≡◌, ◌++◌, List, [], ◌∷◌, slice_index_or, Option, None, Some}
use Rattle.std.proofs.Common.{refl}
use Rattle.mcs_types.specs.declared.id.ObjId.{ObjId}
use Rattle.mcs_types.specs.declared.id.Kind.{Kind}
use Rattle.mcs_types.specs.Ids.{place_of}
use Rattle.mcs_objects.specs.Places.{kept_in, kept_at, AreEmpty}

-- one place more with nothing at it
pub empty-more : {A : Type 0} (xs : List (Option A)) → AreEmpty xs → AreEmpty (xs ++ None ∷ [])
empty-more [] h = (refl, tt)
empty-more (x ∷ xs) h = (h.0, empty-more xs h.1)

empty-index : {A : Type 0} (xs : List (Option A)) (i : ℕ) → AreEmpty xs → slice_index_or xs i None ≡ None
empty-index [] i h = refl
empty-index (x ∷ xs) zero h = h.0
empty-index (x ∷ xs) (suc i) h = empty-index xs i h.1

-- so nothing is kept of any object
pub empty-at : {A : Type 0} (xs : List (Option A)) (k : Kind) (x : ObjId) → AreEmpty xs → kept_at k xs x ≡ None
empty-at xs k x h = go (place_of k x)
  where
    go : (n : Option ℕ) → kept_in xs n ≡ None
    go None = refl
    go (Some n) = empty-index xs n h
