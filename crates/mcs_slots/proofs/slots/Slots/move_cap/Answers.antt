use Rattle.std.proofs.Common.{Some}
use Rattle.mcs_slots.proofs.SlotLaws.{has-slot-filled}
use Rattle.mcs_slots.proofs.slots.Slots.move_cap.Goals as goal

pub set-requires-2 : goal.set-requires-2
set-requires-2 c = rw c.set.ensures (has-slot-filled c.args.self.now c.args.dest c.args.source (Some c.in_ok-cap.cap) c.requires.source)
