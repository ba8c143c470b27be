-- Chains of reply objects, listed from the top: what is in one, and what the ending of a debt
-- leaves of it (own).
use Rattle.std.specs.Prelude.{Bool, cond, Option, Some, None, List, [], ◌∷◌}
use Rattle.std.specs.List.{list_any}
use Rattle.mcs_types.specs.declared.id.ObjId.{ObjId}
use Rattle.mcs_types.specs.declared.record.Ending.{Ending}
use Rattle.mcs_types.specs.declared.record.Ending.TheVariants.{Deleted, Cancelled}
use Rattle.mcs_types.specs.Ids.{same}

-- the first of a list
abbrev pub head_of : {A : Type 0} → List A → Option A
head_of [] = None
head_of (x ∷ xs) = Some x

-- whether r is in a chain
abbrev pub is_in : ObjId → List ObjId → Bool
is_in r os = list_any (λ o. same o r) os

-- what is above r; all where r is not among them
abbrev pub above : ObjId → List ObjId → List ObjId
above r [] = []
above r (o ∷ os) = cond (same o r) [] (o ∷ above r os)

-- the chain after a debt of r ended in order: at the top it is taken off, else what is above stays
abbrev pub taken_off : ObjId → List ObjId → List ObjId
taken_off r [] = []
taken_off r (o ∷ os) = cond (same o r) os (o ∷ above r os)

-- the chain after a debt of r ended
abbrev pub ended : Ending → ObjId → List ObjId → List ObjId
ended Deleted r os = taken_off r os
ended Cancelled r os = above r os
