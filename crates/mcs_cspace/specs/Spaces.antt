-- The capability space of the slots of all CNodes (manual: Capability Spaces).
use Rattle.std.specs.Prelude.{ℕ, ◌<◌, ◌^◌, ◌==◌, ◌↔◌, cond, List, Option, None, IsSome, Result, Ok, Err, unwrap_or}
use Rattle.mcs_types.specs.declared.cap.Cap.{Cap}
use Rattle.mcs_types.specs.declared.cap.Place.{Place}
use Rattle.mcs_types.specs.declared.entry.Refusal.{Refusal}
use Rattle.mcs_book.specs.Checks.{Checked}
use Rattle.mcs_book.specs.Slots.{SlotName}
use Rattle.mcs_book.specs.Lookup.{Space, Reached, bits_of, cnode_cap, walk}
use Rattle.mcs_book.specs.LookupEnds.{IsSlotNamedFrom, IsSlotUnnamedFrom}
use Rattle.mcs_slots.specs.declared.slots.SlotId.{SlotId}
use Rattle.mcs_slots.specs.Pages.{Page, HasSlot, page_radix, page_slot, radix_of, slot_at}
use Rattle.mcs_cspace.specs.declared.levels.Step.{Step}
use Rattle.mcs_cspace.specs.declared.paths.End.{End}

-- the space of slots: a CNode that is not there has a radix of 0, and empty slots
abbrev pub slots_space : List Page → Space
slots_space P = record { radix = λ c. unwrap_or (radix_of P c) 0; slot = slot_at P }

-- the index of a slot is below 2 to the radix of its CNode
abbrev pub IsWithin : List Page → SlotId → Type 0
IsWithin P at = at.index < 2 ^ (slots_space P).radix at.cnode

-- a slot is there exactly where its CNode is
abbrev pub IsThereWithCNode : List Page → SlotId → Type 0
IsThereWithCNode P at = HasSlot P at ↔ IsSome (radix_of P at.cnode)

-- the radix of a CNode with these slots, or 0 where it is not there
abbrev pub radix_on : Option Page → ℕ
radix_on p = unwrap_or (page_radix p) 0

-- the CNode at which lookup continues after a level: bits are left, and the slot holds a capability
-- to it
abbrev pub next_on : Option Page → Step → Option Cap
next_on p s = cond (s.left == 0) None (cnode_cap (page_slot p s.index))

-- what is reached by an address, where lookup ended
abbrev pub reached_by : ℕ → End → Reached
reached_by a end = record { cnode = end.slot.cnode; index = end.slot.index; left = bits_of end.left a }

-- the result of a walk as a lookup of the specification, refusals included
abbrev pub walked_by : ℕ → Result End Refusal → Checked Reached
walked_by a (Ok end) = Ok (reached_by a end)
walked_by a (Err why) = Err why

-- the walk from a root along the low bits of an address
abbrev pub walk_from : List Page → Cap → ℕ → ℕ → Checked Reached
walk_from P root depth address = walk 64 (slots_space P) root (bits_of depth address)

-- the name of a slot
abbrev pub name_of : SlotId → SlotName
name_of at = record { cnode = at.cnode; index = at.index }

-- a complete path from a root ends at a slot with no bits left
abbrev pub EndsAt : List Page → Cap → Place → SlotId → Type 0
EndsAt P root place at = IsSlotNamedFrom (slots_space P) root place (name_of at)

-- no path from a root ends at a slot so, for this reason
abbrev pub EndsNowhere : List Page → Cap → Place → Refusal → Type 0
EndsNowhere P root place why = IsSlotUnnamedFrom (slots_space P) root place why

-- the slot of a result as its name, refusals included
abbrev pub named_by : Result SlotId Refusal → Checked SlotName
named_by (Ok at) = Ok (name_of at)
named_by (Err why) = Err why
