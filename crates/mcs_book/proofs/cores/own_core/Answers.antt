use Rattle.mcs_book.proofs.Books.CoreLines.{own-core}
use Rattle.mcs_book.proofs.cores.own_core.Goals as goal

pub returns : goal.returns
returns g c = own-core g.at.0 g.at.1 c.requires
