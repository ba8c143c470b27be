-- Layouts of spaces: the bits of an address.
use Rattle.std.specs.Prelude.{ℕ, Bool, ◌+◌, ◌-◌, ◌/◌, ◌^◌, ◌&&◌, ◌≤◌, ◌≡◌, ◌⊎◌, nat_le, nat_lt, if◌then◌else◌}
use Rattle.mcs_types.specs.declared.cap.Guard.{Guard}
use Rattle.mcs_plan_layout.specs.declared.layout.Layout.{Layout}
use Rattle.mcs_plan_layout.specs.declared.layout.TheConstants.{LEAF}

-- how many bits of an address follow the guard
abbrev pub index_bits : Layout → ℕ
index_bits l = l.root + l.leaf + l.within

-- the radix of the root, of the CNodes in it, and the bits within, are in their ranges
pub record IsLaidOut (l : Layout) : Type 0 where
  pub some : 1 ≤ l.root
  pub root : l.root ≤ 8
  pub leaf : l.leaf ≤ 8
  pub within : l.within ≤ 16

-- a guard of this many bits, all of them 0
abbrev pub zero_guard : ℕ → Guard
zero_guard bits = record { bits = bits; value = 0 }

-- how many bits name one of this many things: as few as do, from 1 to 8
abbrev pub bits_for : ℕ → ℕ
bits_for count =
    if nat_le count 2 then 1
    else if nat_le count 4 then 2
    else if nat_le count 8 then 3
    else if nat_le count 16 then 4
    else if nat_le count 32 then 5
    else if nat_le count 64 then 6
    else if nat_le count 128 then 7
    else 8

-- the layout of a space that is one CNode, of this radix
abbrev pub layout_of_radix : ℕ → Layout
layout_of_radix radix = record { root = radix; leaf = 0; within = 0 }

-- the layout of this many slots: one CNode for up to 256 of them, and more in the root for a larger
-- space
abbrev pub layout_of_slots : ℕ → Layout
layout_of_slots slots =
    if nat_le slots 256 then layout_of_radix (bits_for slots)
    else record { root = bits_for ((slots - 1) / 256 + 1); leaf = LEAF; within = 0 }

-- whether a space is laid out so, and has a slot of this index
abbrev pub has_slot : Layout → ℕ → Bool
has_slot l index =
    nat_le 1 l.root && nat_le l.root 8 && nat_le l.leaf 8 && nat_le l.within 16 && nat_lt index (2 ^ (l.root + l.leaf))
