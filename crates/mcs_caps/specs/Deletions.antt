-- The row of DeleteCap, in the parts in which the code does it.
use Rattle.std.specs.Prelude.{◌≡◌, false, cond, None, Ok, Err}
use Rattle.mcs_types.specs.declared.id.ObjId.{ObjId}
use Rattle.mcs_types.specs.declared.cap.Place.{Place}
use Rattle.mcs_types.specs.declared.entry.Refusal.TheVariants.{LastCNode}
use Rattle.mcs_book.specs.Logs.{Log}
use Rattle.mcs_book.specs.Slots.{SlotName, slot}
use Rattle.mcs_book.specs.Checks.{Checked}
use Rattle.mcs_book.specs.Lookup.{slot_named}
use Rattle.mcs_book.specs.Pieces.{Piece, Act, ◌then◌}
use Rattle.mcs_book.specs.Placing.{fills, is_last_cnode, destroy_last, delete}
use Rattle.mcs_slots.specs.declared.slots.SlotId.{SlotId}
use Rattle.mcs_cspace.specs.Spaces.{name_of}

-- what was found, where it does not hold the last capability to a CNode
abbrev pub spared : Log → Checked SlotName → Checked SlotName
spared R (Err why) = Err why
spared R (Ok at) = cond (is_last_cnode R (slot R at.cnode at.index)) (Err LastCNode) (Ok at)

-- the slot whose capability t may delete, or the first check that fails
abbrev pub deletable : Log → ObjId → Place → Checked SlotName
deletable R t place = spared R (slot_named R t place)

-- a slot does not hold the last capability to a CNode
abbrev pub IsSpared : Log → SlotId → Type 0
IsSpared R at = is_last_cnode R (slot R at.cnode at.index) ≡ false

-- what a slot holds is deleted
abbrev pub deletes : Log → SlotId → Act
deletes R at = delete (name_of at) (slot R at.cnode at.index)

-- a slot that held a capability to o is emptied, and o ends where it was the last
abbrev pub takes_out : SlotId → ObjId → Piece
takes_out at o = fills (name_of at) None then destroy_last o
