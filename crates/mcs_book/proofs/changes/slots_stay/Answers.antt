use Rattle.mcs_book.proofs.Sparing.{does-no_slots}
use Rattle.mcs_book.proofs.changes.slots_stay.Goals as goal

pub returns : goal.returns
returns g c = does-no_slots g.at.0 g.at.1 g.at.2 g.at.3 c.requires
