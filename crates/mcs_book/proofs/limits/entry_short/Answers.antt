use Rattle.mcs_book.proofs.Lengths.Rows.{does-short}
use Rattle.mcs_book.proofs.limits.entry_short.Goals as goal

pub returns : goal.returns
returns g c = does-short g.at.0 g.at.1 g.at.2 g.at.3
