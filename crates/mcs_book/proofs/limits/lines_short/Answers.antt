use Rattle.mcs_book.proofs.Lengths.Rows.{legal-short}
use Rattle.mcs_book.proofs.limits.lines_short.Goals as goal

pub returns : goal.returns
returns g c = legal-short g.book c.requires
