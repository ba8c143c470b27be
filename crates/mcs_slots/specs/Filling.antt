-- One slot gets a capability, or is emptied.
use Rattle.std.specs.Prelude.{◌≡◌, ◌-◌, ◌+◌, ℕ, zero, suc, cond, ◌&&◌, ◌==◌, List, [], ◌∷◌, Option, Some, None, IfOk, slice_set}
use Rattle.mcs_types.specs.declared.id.ObjId.{ObjId}
use Rattle.mcs_types.specs.declared.cap.Cap.{Cap}
use Rattle.mcs_types.specs.Ids.{same}
use Rattle.mcs_book.specs.Checks.{Checked}
use Rattle.mcs_book.specs.Slots.{is_cap_to}
use Rattle.mcs_slots.specs.declared.slots.SlotId.{SlotId}
use Rattle.mcs_slots.specs.Pages.{Page, radix_of, slot_at, held}

-- slot i of page k gets this
abbrev pub fills_in : List Page → ℕ → ℕ → Option Cap → List Page
fills_in [] k i cap = []
fills_in (p ∷ ps) zero i cap = record p { caps = slice_set p.caps i cap } ∷ ps
fills_in (p ∷ ps) (suc k) i cap = p ∷ fills_in ps k i cap

-- the slots with this in a slot that is there
abbrev pub filled : List Page → SlotId → Option Cap → List Page
filled S at cap = fills_in S (at.cnode.serial - 1) at.index cap

-- the capability that was got, if one was, is in a slot
abbrev pub Fills : List Page → List Page → SlotId → Checked Cap → Type 0
Fills old new at got = IfOk got (λ cap. new ≡ filled old at (Some cap))

-- a capability has moved: it is in one slot now, and the other is empty
abbrev pub Moves : List Page → List Page → SlotId → SlotId → Checked Cap → Type 0
Moves old new source dest got = IfOk got (λ cap. new ≡ filled (filled old dest (Some cap)) source None)

-- slots, and what one of them is given
pub record Filling : Type 0 where
  pub before : List Page
  pub at : SlotId
  pub cap : Option Cap

abbrev pub after : Filling → List Page
after f = filled f.before f.at f.cap

-- the slot holds what it was given, and all else is as it was
pub record ChangesOne (f : Filling) : Type 0 where
  pub slots : (c : ObjId) (i : ℕ) → slot_at (after f) c i ≡ cond (same c f.at.cnode && (i == f.at.index)) f.cap (slot_at f.before c i)
  pub radices : (c : ObjId) → radix_of (after f) c ≡ radix_of f.before c
  pub counts : (o : ObjId) → held (after f) o + cond (is_cap_to o (slot_at f.before f.at.cnode f.at.index)) 1 0 ≡ held f.before o + cond (is_cap_to o f.cap) 1 0
