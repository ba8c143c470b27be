use Rattle.mcs_book.proofs.Sparing.{does-no_making}
use Rattle.mcs_book.proofs.changes.none_made.Goals as goal

pub returns : goal.returns
returns g c = does-no_making g.at.0 g.at.1 g.at.2 g.at.3 c.requires
