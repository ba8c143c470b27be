-- Where the slots of a space that is laid out are, and what they hold (manual: Capability Spaces).
use Rattle.std.specs.Prelude.{ℕ, ◌-◌, ◌/◌, ◌%◌, ◌^◌, ◌<◌, ◌≡◌, ◌⊎◌, Some, None, Ok}
use Rattle.mcs_types.specs.declared.id.ObjId.{ObjId}
use Rattle.mcs_types.specs.declared.cap.Cap.{Cap}
use Rattle.mcs_book.specs.Lookup.{Space, cnode_cap, capability_from}
use Rattle.mcs_plan_layout.specs.declared.layout.Layout.{Layout}
use Rattle.mcs_plan_layout.specs.SpaceLayouts.{index_bits, zero_guard}

-- the capability to the root, and the radix of its CNode, are as the layout says; bits of the
-- address as many as these are left
pub record IsRoot (S : Space) (root : Cap) (l : Layout) (bits : ℕ) : Type 0 where
  pub guard : root.guard ≡ zero_guard (bits - index_bits l)
  pub radix : S.radix root.obj ≡ l.root

-- a slot of a space that is one CNode
pub record IsInRoot (root : Cap) (l : Layout) (slot : ℕ) (c : ObjId) (i : ℕ) : Type 0 where
  pub alone : l.leaf ≡ 0
  pub cnode : c ≡ root.obj
  pub index : i ≡ slot

-- a slot of a CNode that the root holds a capability to
pub record IsInLeaf (S : Space) (root : Cap) (l : Layout) (slot : ℕ) (c : ObjId) (i : ℕ) : Type 0 where
  pub has_leaf : l.leaf ≡ 8
  pub next : Cap
  pub there : cnode_cap (S.slot root.obj (slot / 2 ^ 8)) ≡ Some next
  pub unguarded : next.guard ≡ zero_guard 0
  pub radix : S.radix next.obj ≡ 8
  pub cnode : c ≡ next.obj
  pub index : i ≡ slot % 2 ^ 8

-- a slot of a space is in this CNode, at this index
abbrev pub Stands : Space → Cap → Layout → ℕ → ObjId → ℕ → Type 0
Stands S root l slot c i = IsInRoot root l slot c i ⊎ IsInLeaf S root l slot c i

-- a slot of a space holds this capability; where bits are left after its index, that is to no CNode
pub record Holds (S : Space) (root : Cap) (l : Layout) (slot : ℕ) (cap : Cap) : Type 0 where
  pub of_root : IsRoot S root l 64
  pub cnode : ObjId
  pub index : ℕ
  pub stands : Stands S root l slot cnode index
  pub there : S.slot cnode index ≡ Some cap
  pub last : (l.within ≡ 0) ⊎ (cnode_cap (Some cap) ≡ None)

-- in every space that is laid out so, lookup of the address from its root gives the capability that
-- the slot holds
abbrev pub IsAddressOf : Layout → ℕ → ℕ → Type 0
IsAddressOf l slot address =
    (S : Space) (root cap : Cap) → Holds S root l slot cap → capability_from S root address ≡ Ok cap
