-- What a contract sees of `Slots`: a page for each CNode, that of serial 1 first.
use Rattle.std.specs.Prelude.{◌≡◌, ◌<◌, ◌≤◌, ◌^◌, ℕ, List, [], ◌∷◌, length, Option, Some, None, replicate, slice_get, slice_index_or, sum_by, count_by}
use Rattle.mcs_types.specs.declared.id.ObjId.{ObjId}
use Rattle.mcs_types.specs.declared.cap.Cap.{Cap}
use Rattle.mcs_book.specs.Slots.{is_cap_to}
use Rattle.mcs_slots.specs.declared.slots.SlotId.{SlotId}
use Rattle.mcs_slots.specs.Numbers.{number_of}

-- the radix of a CNode, and what its slots hold
pub record Page : Type 0 where
  pub radix : ℕ
  pub caps : List (Option Cap)

-- a CNode with no capability
abbrev pub empty_page : ℕ → Page
empty_page radix = record { radix = radix; caps = replicate (2 ^ radix) None }

-- a radix from 1 to 8, and 2 to the radix slots
abbrev pub IsPage : Page → Type 0
IsPage p = (1 ≤ p.radix) × (p.radix ≤ 8) × (length p.caps ≡ 2 ^ p.radix)

abbrev pub ArePages : List Page → Type 0
ArePages [] = Unit {0}
ArePages (p ∷ ps) = IsPage p × ArePages ps

-- the page of a number, counted from 0
abbrev pub page_of : List Page → Option ℕ → Option Page
page_of S None = None
page_of S (Some n) = slice_get S n

-- the page of a CNode
abbrev pub page_at : List Page → ObjId → Option Page
page_at S c = page_of S (number_of c)

abbrev pub page_radix : Option Page → Option ℕ
page_radix None = None
page_radix (Some p) = Some p.radix

abbrev pub page_slot : Option Page → ℕ → Option Cap
page_slot None i = None
page_slot (Some p) i = slice_index_or p.caps i None

abbrev pub page_slots : Option Page → ℕ
page_slots None = 0
page_slots (Some p) = 2 ^ p.radix

-- the radix of a CNode
abbrev pub radix_of : List Page → ObjId → Option ℕ
radix_of S c = page_radix (page_at S c)

-- the capability in slot i of the CNode c
abbrev pub slot_at : List Page → ObjId → ℕ → Option Cap
slot_at S c i = page_slot (page_at S c) i

-- the slot is there: its index is below 2 to the radix of its CNode
abbrev pub HasSlot : List Page → SlotId → Type 0
HasSlot S at = at.index < page_slots (page_at S at.cnode)

-- the number of slots that hold a capability to an object
abbrev pub held : List Page → ObjId → ℕ
held S o = sum_by (λ p. count_by (is_cap_to o) p.caps) S
