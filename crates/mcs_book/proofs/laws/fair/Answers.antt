use Rattle.mcs_book.proofs.Books.LegalFair.{legal-fair}
use Rattle.mcs_book.proofs.laws.fair.Goals as goal

pub returns : goal.returns
returns g c = legal-fair g.book c.requires
