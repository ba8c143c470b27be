use Rattle.mcs_book.proofs.Books.KnownCores.{legal-cores}
use Rattle.mcs_book.proofs.cores.known_cores.Goals as goal

pub returns : goal.returns
returns g c = legal-cores g.book c.requires
