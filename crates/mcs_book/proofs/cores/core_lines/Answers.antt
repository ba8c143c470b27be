use Rattle.mcs_book.proofs.Books.CoreLines.{core-lines}
use Rattle.mcs_book.proofs.cores.core_lines.Goals as goal

pub returns : goal.returns
returns g c = core-lines g.at.0 g.at.1
