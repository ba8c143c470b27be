-- How the spaces of a plan are laid out (own).
use Rattle.std.specs.Prelude.{◌+◌, ℕ, List, Option, Some, None, length, map, fold, min, max, slice_get, option_map, option_and_then}
use Rattle.std.specs.Option.{unwrap_or}
use Rattle.mcs_types.specs.declared.id.ObjId.{ObjId}
use Rattle.mcs_types.specs.declared.id.Kind.TheVariants as kind
use Rattle.mcs_types.specs.declared.cap.Cap.{Cap}
use Rattle.mcs_types.specs.Ids.{place_of}
use Rattle.mcs_plan_source.specs.Naming.{ByName}
use Rattle.mcs_plan_source.specs.Saying.{SaidSpace}
use Rattle.mcs_plan_layout.specs.declared.layout.Layout.{Layout}
use Rattle.mcs_plan_layout.specs.SpaceLayouts.{layout_of_radix, layout_of_slots}

-- how many slots a space has, with slot 0, up to 65,536
abbrev pub slots_in : SaidSpace → ℕ
slots_in space = min (length space.slots) 65535 + 1

-- how the slots of a space are laid out: by its radix, where one is said, or else by how many they
-- are
abbrev pub own_layout_by : Option ℕ → ℕ → Layout
own_layout_by (Some radix) slots = layout_of_radix radix
own_layout_by None slots = layout_of_slots slots

abbrev pub own_layout : SaidSpace → Layout
own_layout space = own_layout_by space.radix (slots_in space)

-- how many bits name one of its slots
abbrev pub own_bits : SaidSpace → ℕ
own_bits space = (own_layout space).root + (own_layout space).leaf

-- the space whose root is a CNode
abbrev pub space_of_cnode : List SaidSpace → ObjId → Option SaidSpace
space_of_cnode spaces cnode = option_and_then (λ place. slice_get spaces place) (place_of kind.CNode cnode)

-- how many bits name a slot of the CNode that a slot holds a capability to
abbrev pub bits_held : List SaidSpace → Option Cap → ℕ
bits_held spaces None = 0
bits_held spaces (Some cap) = unwrap_or (option_map own_bits (space_of_cnode spaces cap.obj)) 0

abbrev pub bits_at : List SaidSpace → Option (List ℕ × Option Cap) → ℕ
bits_at spaces None = 0
bits_at spaces (Some slot) = bits_held spaces slot.1

-- the most that any of some slots needs
abbrev pub most_bits : List SaidSpace → ByName (Option Cap) → ℕ
most_bits spaces slots = fold (λ most slot. max (bits_held spaces slot.1) most) 0 slots

abbrev pub bits_within : List SaidSpace → SaidSpace → ℕ
bits_within spaces space = most_bits spaces space.slots

-- the layout of a space among all: its own, and the bits of the CNodes that it holds capabilities
-- to
abbrev pub layout_among : List SaidSpace → SaidSpace → Layout
layout_among spaces space =
    record { root = (own_layout space).root; leaf = (own_layout space).leaf; within = bits_within spaces space }

-- the layouts of all
abbrev pub layouts_of : List SaidSpace → List Layout
layouts_of spaces = map (layout_among spaces) spaces
