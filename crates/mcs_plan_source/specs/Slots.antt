-- The slots of a space by their names.
use Rattle.std.specs.Prelude.{◌≡◌, ◌++◌, ◌∷◌, ◌<◌, ◌+◌, ◌-◌, ◌/◌, ◌^◌, ◌==◌, ℕ, List, [], Option, Some, None, length, min, cond, nat_le, slice_get, option_and_then}
use Rattle.mcs_types.specs.declared.cap.Cap.{Cap}
use Rattle.mcs_plan_source.specs.Naming.{ByName, find, named_in}
use Rattle.mcs_plan_source.specs.declared.plan.Slot.{Slot}
use Rattle.mcs_plan_source.specs.declared.plan.Space.{Space}

-- how many slots a space may have beside slot 0: those of its radix, up to 8, where a plan says one
abbrev pub most_slots : Option ℕ → ℕ
most_slots None = 16383
most_slots (Some radix) = 2 ^ min radix 8 - 1

-- its slots with their names, from slot 1 on
abbrev pub slots_of : Space → ByName Slot
slots_of space = named_in space.slots.entries

-- a space may have a slot more of this name
pub record MayHave (space : Space) (name : List ℕ) : Type 0 where
  pub fresh : find (slots_of space) name ≡ None
  pub room : length (slots_of space) < most_slots space.radix

-- a space has a slot more of this name, after the others
pub record AddsSlot (old : Space) (name : List ℕ) (slot : Slot) (new : Space) : Type 0 where
  pub may : MayHave old name
  pub slots : slots_of new ≡ slots_of old ++ (name, slot) ∷ []
  pub radix : new.radix ≡ old.radix

-- how many slots it has, with slot 0, up to 65,536
abbrev pub slot_count : Space → ℕ
slot_count space = min (length (slots_of space)) 65535 + 1

-- what a slot holds: slot 0 is empty
abbrev pub cap_at : Space → ℕ → Option Cap
cap_at space index = cond (index == 0) None (option_and_then (λ s. s.1.cap) (slice_get (slots_of space) (index - 1)))

-- how many CNodes a space of this many slots takes beside its root: none where its radix is said,
-- or the root has all slots
abbrev pub leaves_for : Option ℕ → ℕ → ℕ
leaves_for (Some radix) slots = 0
leaves_for None slots = cond (nat_le slots 256) 0 ((slots - 1) / 256 + 1)

-- how many this space takes
abbrev pub leaves_of : Space → ℕ
leaves_of space = leaves_for space.radix (slot_count space)
