-- What lookup answers at the end of its walk.
use Rattle.std.specs.Prelude.{ℕ, ◌≡◌, ◌==◌, Bool, true, false, cond, Result, Ok, Err, IfOk, IfErr}
use Rattle.std.proofs.Common.{refl, ap, sym, ◌∙◌}
use Rattle.mcs_types.specs.declared.cap.Cap.{Cap}
use Rattle.mcs_types.specs.declared.cap.Place.{Place}
use Rattle.mcs_types.specs.declared.entry.Refusal.{Refusal}
use Rattle.mcs_types.specs.declared.entry.Refusal.TheVariants.{Missing, DepthMismatch, Range}
use Rattle.mcs_book.specs.Checks.{Checked, ◌>>=◌, ◌>>◌, need, needed}
use Rattle.mcs_book.specs.Slots.{SlotName}
use Rattle.mcs_book.specs.Lookup.{Space, Reached, bits_of, walk, capability_from, slot_from, is_depth, is_none_left}
use Rattle.mcs_book.specs.Paths.{IsNamedFrom}
use Rattle.mcs_book.specs.LookupEnds.{IsUnnamedFrom, IsSlotNamedFrom, IsSlotUnnamedFrom}
use Rattle.mcs_book.proofs.Paths.PathRefusals.{Narrows}
use Rattle.mcs_book.proofs.Paths.PathLaws.{capability_from-named}
use Rattle.mcs_book.proofs.Paths.LookupLaws.{refused-unnamed_from}
use Rattle.mcs_book.proofs.Paths.SlotLookup.{slot_from-named, slot_from-unnamed}
use Rattle.mcs_slots.specs.declared.slots.SlotId.{SlotId}
use Rattle.mcs_cspace.specs.declared.paths.End.{End}
use Rattle.mcs_cspace.specs.Spaces.{walked_by, name_of, named_by}
use Rattle.mcs_cspace.proofs.Walking.{none-left}

-- the capability at the end of a walk
pub cap-ends : (S : Space) (root : Cap) (a : ℕ) (end : End) → walked_by a (Ok end) ≡ walk 64 S root (bits_of 64 a) → needed (S.slot end.slot.cnode end.slot.index) Missing ≡ capability_from S root a
unfolding capability_from ◌>>=◌
cap-ends S root a end h = ap (λ m. m >>= λ at. needed (S.slot at.cnode at.index) Missing) h

-- a walk that is refused
pub cap-refused : (S : Space) (root : Cap) (a : ℕ) (why : Refusal) → walked_by a (Err why) ≡ walk 64 S root (bits_of 64 a) → Err why ≡ capability_from S root a
unfolding capability_from ◌>>=◌
cap-refused S root a why h = ap (λ m. m >>= λ at. needed (S.slot at.cnode at.index) Missing) h

-- the slot that is reached, where no bits are left
slot_at : Reached → Checked SlotName
slot_at at = need (is_none_left at.left) DepthMismatch >> Ok (record { cnode = at.cnode; index = at.index })

-- within the range of depths, lookup of a slot is a walk
slot-walks : (S : Space) (root : Cap) (place : Place) (m : Checked Reached) → is_depth place.depth ≡ true → m ≡ walk 64 S root (bits_of place.depth place.index) → (m >>= slot_at) ≡ slot_from S root place
unfolding slot_from slot_at ◌>>=◌ ◌>>◌ need
slot-walks S root place m d h = λ i. need (sym d i) Range >> (h i >>= slot_at)

-- the slot at the end of a walk
pub slot-ends : (S : Space) (root : Cap) (place : Place) (end : End) → is_depth place.depth ≡ true → walked_by place.index (Ok end) ≡ walk 64 S root (bits_of place.depth place.index)
    → named_by (cond (end.left == 0) (Ok end.slot) (Err DepthMismatch)) ≡ slot_from S root place
unfolding slot_at ◌>>=◌ ◌>>◌ need
slot-ends S root place end d h = go (end.left == 0) (is_none_left (bits_of end.left place.index)) (none-left end.left place.index) ∙ slot-walks S root place (walked_by place.index (Ok end)) d h
  where
    go : (b c : Bool) → c ≡ b → named_by (cond b (Ok end.slot) (Err DepthMismatch)) ≡ (need c DepthMismatch >> Ok (name_of end.slot))
    go true true e = refl
    go false false e = refl
    go true false e = absurd cc
    go false true e = absurd cc

-- a walk that is refused
pub slot-refused : (S : Space) (root : Cap) (place : Place) (why : Refusal) → is_depth place.depth ≡ true → walked_by place.index (Err why) ≡ walk 64 S root (bits_of place.depth place.index) → Err why ≡ slot_from S root place
unfolding ◌>>=◌
slot-refused S root place why d h = slot-walks S root place (Err why) d h

-- a depth out of range
pub slot-out : (S : Space) (root : Cap) (place : Place) → is_depth place.depth ≡ false → Err Range ≡ slot_from S root place
unfolding slot_from ◌>>=◌ ◌>>◌ need
slot-out S root place d = λ i. need (sym d i) Range >> (walk 64 S root (bits_of place.depth place.index) >>= λ at. need (is_none_left at.left) DepthMismatch >> Ok (record { cnode = at.cnode; index = at.index }))

-- the law: what lookup finds is named from the root
pub cap-named : (S : Space) (root : Cap) (a : ℕ) (m : Checked Cap) → m ≡ capability_from S root a → IfOk m (λ cap. IsNamedFrom S root a cap)
cap-named S root a (Ok cap) h = capability_from-named S root a cap (sym h)
cap-named S root a (Err why) h = tt

-- the law: what lookup refuses is not named from the root
pub cap-unnamed : (S : Space) (root : Cap) (a : ℕ) (m : Checked Cap) → Narrows S root → m ≡ capability_from S root a → IfErr m (λ why. IsUnnamedFrom S root a why)
cap-unnamed S root a (Ok cap) n h = tt
cap-unnamed S root a (Err why) n h = refused-unnamed_from S root a why n (sym h)

-- the law: a slot that lookup finds is named from the root
pub slot-named : (S : Space) (root : Cap) (place : Place) (m : Result SlotId Refusal) → named_by m ≡ slot_from S root place → IfOk m (λ at. IsSlotNamedFrom S root place (name_of at))
slot-named S root place (Ok at) h = slot_from-named S root place (name_of at) (sym h)
slot-named S root place (Err why) h = tt

-- the law: where lookup of a slot is refused, none is named from the root
pub slot-unnamed : (S : Space) (root : Cap) (place : Place) (m : Result SlotId Refusal) → Narrows S root → named_by m ≡ slot_from S root place → IfErr m (λ why. IsSlotUnnamedFrom S root place why)
slot-unnamed S root place (Ok at) n h = tt
slot-unnamed S root place (Err why) n h = slot_from-unnamed S root place why n (sym h)
