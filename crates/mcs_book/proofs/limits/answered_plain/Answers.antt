use Rattle.mcs_book.proofs.Books.PlainAnswers.{does-plain}
use Rattle.mcs_book.proofs.limits.answered_plain.Goals as goal

pub returns : goal.returns
returns g c = does-plain g.at.0 g.at.1 g.at.2 g.at.3 c.requires
