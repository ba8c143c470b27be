-- What lookup answers, said without its steps: the end of the complete path, or the refusal of the
-- longest path (manual: Capability Spaces, lookup).
use Rattle.std.specs.Prelude.{ℕ, ◌≤◌, Bool, ◌≡◌, ◌≢◌, ◌⊎◌, ◌↔◌, Option, Some, None, Ok, Err, List, [], ◌∷◌, ◌++◌, length}
use Rattle.mcs_types.specs.declared.id.ObjId.{ObjId}
use Rattle.mcs_types.specs.declared.cap.Cap.{Cap}
use Rattle.mcs_types.specs.declared.cap.Place.{Place}
use Rattle.mcs_types.specs.declared.entry.Refusal.{Refusal}
use Rattle.mcs_types.specs.declared.entry.Refusal.TheVariants.{Missing, DepthMismatch, GuardMismatch, Range}
use Rattle.mcs_book.specs.Logs.{Log}
use Rattle.mcs_book.specs.Slots.{SlotName}
use Rattle.mcs_book.specs.Threads.{root_of}
use Rattle.mcs_book.specs.Lookup.{Space, space_of, Reached, bits_of, capability, slot_named}
use Rattle.mcs_book.specs.Paths.{guard_of, next_cnode, IsPath, spelling, IsComplete, IsNamed}

-- a path spells the beginning of the bits, and these are left
pub record Spells (S : Space) (cap : Cap) (bits : List Bool) (path : List (List Bool)) (left : List Bool) : Type 0 where
  pub is_path : IsPath S (Some cap) path
  pub spells : bits ≡ spelling S (Some cap) path ++ left

-- the CNode capability to which a path leads, if it leads to one
abbrev pub led_to : Space → Option Cap → List (List Bool) → Option Cap
led_to S cap [] = cap
led_to S None (index ∷ path) = None
led_to S (Some cap) (index ∷ path) = led_to S (next_cnode S cap index) path

-- bits begin with a guard
abbrev pub BeginWith : List Bool → List Bool → Type 0
BeginWith guard bits = (rest : List Bool) × (bits ≡ guard ++ rest)

-- the refusal at a CNode capability: of its guard, where the bits left do not begin with it, else
-- of the depth
abbrev pub IsRefusalAt : Cap → List Bool → Refusal → Type 0
IsRefusalAt cap left refusal = ((BeginWith (guard_of cap) left → ⊥) × (refusal ≡ GuardMismatch)) ⊎ (BeginWith (guard_of cap) left × (refusal ≡ DepthMismatch))

-- no complete path spells the bits; the longest path that spells their beginning leads to the CNode
-- capability where lookup is refused
pub record IsStuck (S : Space) (cap : Cap) (bits : List Bool) (refusal : Refusal) : Type 0 where
  pub incomplete : (path : List (List Bool)) (at : Reached) → IsComplete S cap bits path at → ⊥
  pub path : List (List Bool)
  pub left : List Bool
  pub along : Spells S cap bits path left
  pub longest : (other : List (List Bool)) (rest : List Bool) → Spells S cap bits other rest → length other ≤ length path
  pub last : Cap
  pub leads : led_to S (Some cap) path ≡ Some last
  pub refused : IsRefusalAt last left refusal

-- a complete path ends in an empty slot
pub record EndsEmpty (S : Space) (cap : Cap) (bits : List Bool) : Type 0 where
  pub path : List (List Bool)
  pub at : Reached
  pub along : IsComplete S cap bits path at
  pub empty : S.slot at.cnode at.index ≡ None

-- an address names no capability from a root: the slot at the path's end is empty, or no complete
-- path spells the address
abbrev pub IsUnnamedFrom : Space → Cap → ℕ → Refusal → Type 0
IsUnnamedFrom S root address refusal = (EndsEmpty S root (bits_of 64 address) × (refusal ≡ Missing)) ⊎ IsStuck S root (bits_of 64 address) refusal

-- t names no capability by an address of 64 bits: it has no root, or the address names none from it
abbrev pub IsUnnamed : Log → ObjId → ℕ → Refusal → Type 0
IsUnnamed R t address refusal =
    ((root_of R t ≡ None) × (refusal ≡ Missing))
    ⊎ ((root : Cap) × (root_of R t ≡ Some root) × IsUnnamedFrom (space_of R) root address refusal)

-- a depth of 1 to 64 bits
abbrev pub IsDepth : ℕ → Type 0
IsDepth depth = (1 ≤ depth) × (depth ≤ 64)

-- the slot that an index and a depth name from a root: a complete path ends there, and no bits are
-- left
pub record IsSlotNamedFrom (S : Space) (root : Cap) (place : Place) (name : SlotName) : Type 0 where
  pub in_depth : IsDepth place.depth
  pub path : List (List Bool)
  pub at : Reached
  pub along : IsComplete S root (bits_of place.depth place.index) path at
  pub none_left : at.left ≡ []
  pub in_cnode : name.cnode ≡ at.cnode
  pub at_index : name.index ≡ at.index

-- the slot that t names by an index and a depth: the one that they name from the root of t
pub record IsSlotNamed (R : Log) (t : ObjId) (place : Place) (name : SlotName) : Type 0 where
  pub root : Cap
  pub from : root_of R t ≡ Some root
  pub named : IsSlotNamedFrom (space_of R) root place name

-- a complete path ends before all bits are spelled
pub record EndsEarly (S : Space) (cap : Cap) (bits : List Bool) : Type 0 where
  pub path : List (List Bool)
  pub at : Reached
  pub along : IsComplete S cap bits path at
  pub some_left : at.left ≢ []

-- an index and a depth name no slot from a root: the depth is out of range, which comes first; bits
-- remain at the path's end; or no complete path spells the bits
abbrev pub IsSlotUnnamedFrom : Space → Cap → Place → Refusal → Type 0
IsSlotUnnamedFrom S root place refusal =
    ((IsDepth place.depth → ⊥) × (refusal ≡ Range))
    ⊎ (IsDepth place.depth × ((EndsEarly S root (bits_of place.depth place.index) × (refusal ≡ DepthMismatch)) ⊎ IsStuck S root (bits_of place.depth place.index) refusal))

-- t names no slot by an index and a depth: the depth is out of range, which comes first; it has no
-- root; or they name none from it
abbrev pub IsSlotUnnamed : Log → ObjId → Place → Refusal → Type 0
IsSlotUnnamed R t place refusal =
    ((IsDepth place.depth → ⊥) × (refusal ≡ Range))
    ⊎ (IsDepth place.depth × (root_of R t ≡ None) × (refusal ≡ Missing))
    ⊎ (IsDepth place.depth × (root : Cap) × (root_of R t ≡ Some root) × IsSlotUnnamedFrom (space_of R) root place refusal)

-- at most one complete path from a root spells the bits
abbrev pub HasOnePathFrom : Space → Cap → List Bool → Type 0
HasOnePathFrom S root bits = (path other : List (List Bool)) (at to : Reached) → IsComplete S root bits path at → IsComplete S root bits other to → (path ≡ other) × (at ≡ to)

-- at most one complete path from the root of t spells the bits
abbrev pub HasOnePath : Log → ObjId → List Bool → Type 0
HasOnePath R t bits = (root : Cap) → root_of R t ≡ Some root → HasOnePathFrom (space_of R) root bits

-- lookup of a capability by t finds one exactly where a complete path names it
abbrev pub FindsNamed : Log → ObjId → ℕ → Type 0
FindsNamed R t address = (cap : Cap) → (capability R t address ≡ Ok cap) ↔ IsNamed R t address cap

-- an address is refused exactly where none is named, for the reason that the paths give
abbrev pub RefusesUnnamed : Log → ObjId → ℕ → Type 0
RefusesUnnamed R t address = (why : Refusal) → (capability R t address ≡ Err why) ↔ IsUnnamed R t address why

-- the same of slots
abbrev pub FindsSlot : Log → ObjId → Place → Type 0
FindsSlot R t place = (name : SlotName) → (slot_named R t place ≡ Ok name) ↔ IsSlotNamed R t place name

abbrev pub RefusesSlot : Log → ObjId → Place → Type 0
RefusesSlot R t place = (why : Refusal) → (slot_named R t place ≡ Err why) ↔ IsSlotUnnamed R t place why
