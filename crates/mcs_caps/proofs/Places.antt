-- What may be put into the slots that were found.
use Rattle.std.specs.Prelude.{◌≡◌, ◌∷◌, true, Some, None, Ok, IsTrue}
use Rattle.std.proofs.Common.{sym, subst}
use Rattle.mcs_types.specs.declared.id.ObjId.{ObjId}
use Rattle.mcs_types.specs.declared.cap.Cap.{Cap}
use Rattle.mcs_types.specs.declared.cap.Place.{Place}
use Rattle.mcs_types.specs.declared.record.Mode.{Mode}
use Rattle.mcs_types.specs.declared.record.Mode.TheVariants.{Running, Restart, Inactive}
use Rattle.mcs_types.specs.declared.record.Rec.TheVariants as rec
use Rattle.mcs_book.specs.Logs.{Log, onto}
use Rattle.mcs_book.specs.Objects.{is_alive}
use Rattle.mcs_book.specs.Slots.{SlotName}
use Rattle.mcs_book.specs.Lookup.{slot_named}
use Rattle.mcs_book.specs.Table.{wakes}
use Rattle.mcs_book.specs.Sound.{Sound, Allowed}
use Rattle.mcs_book.proofs.Books.Checking.{OnPassed}
use Rattle.mcs_book.proofs.Firm.Lookup.{IsSlotOf, slot_named-rooted}
use Rattle.mcs_book.proofs.SoundLogs.KeptLaws.{slot-alive}
use Rattle.mcs_slots.specs.declared.slots.SlotId.{SlotId}
use Rattle.mcs_cspace.specs.Spaces.{named_by}
use Rattle.mcs_state.specs.Entering.{IsEntering}
use Rattle.mcs_state.proofs.Woken.{woken-alive}
use Rattle.mcs_caps.specs.declared.checks.Placing.{Placing}
use Rattle.mcs_caps.specs.Placed.{IsSlot, IsPlaced}

-- what was named is a slot of a CNode that is there
pub named-slot : (R : Log) (t : ObjId) (place : Place) (at : SlotId) → Sound R → IsEntering R t → slot_named R t place ≡ named_by (Ok at) → IsSlot R at
unfolding OnPassed
named-slot R t place at sound enters e =
    let found : IsSlotOf R at.cnode at.index = subst (λ m. OnPassed (λ (n : SlotName). IsSlotOf R n.cnode n.index) m) e (slot_named-rooted R t place sound enters.rooted) in
    (found.there, found.within)

-- a slot is there still when a thread was woken
woken-slot : (R : Log) (t : ObjId) (m : Mode) (at : SlotId) → IsSlot R at → IsSlot (onto (wakes m t R) R) at
woken-slot R t Running at h = h
woken-slot R t Restart at h = h
woken-slot R t Inactive at h = h

-- a capability to the object of the one that was found may be put into the empty slot
pub may-fill : (R : Log) (t : ObjId) (m : Mode) (at : Placing) (cap : Cap) → Sound R → IsPlaced R at → cap.obj ≡ at.cap.obj → Allowed (onto (wakes m t R) R) (rec.Slot at.dest.cnode at.dest.index (Some cap))
may-fill R t m at cap sound placed object =
    let dest = woken-slot R t m at.dest placed.dest in
    let there : is_alive R at.cap.obj ≡ true = slot-alive R at.source.cnode at.source.index at.cap sound placed.held in
    (dest.0, dest.1, subst (λ o. IsTrue (is_alive (onto (wakes m t R) R) o)) (sym object) (woken-alive R t m at.cap.obj there))

-- the source may be emptied when the destination was filled
pub may-empty : (R : Log) (t : ObjId) (m : Mode) (at : Placing) → IsPlaced R at → Allowed (rec.Slot at.dest.cnode at.dest.index (Some at.cap) ∷ onto (wakes m t R) R) (rec.Slot at.source.cnode at.source.index None)
may-empty R t m at placed = let source = woken-slot R t m at.source placed.source in (source.0, source.1, tt)
