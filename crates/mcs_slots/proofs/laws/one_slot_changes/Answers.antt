use Rattle.mcs_slots.proofs.SlotLaws.{changes-one}
use Rattle.mcs_slots.proofs.laws.one_slot_changes.Goals as goal

pub returns : goal.returns
returns g c = changes-one g.filling c.requires.0 c.requires.1
