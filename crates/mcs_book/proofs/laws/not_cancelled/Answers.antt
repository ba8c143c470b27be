use Rattle.mcs_book.proofs.Messages.SendersOpen.{legal-not_cancelled}
use Rattle.mcs_book.proofs.laws.not_cancelled.Goals as goal

pub returns : goal.returns
returns g c = legal-not_cancelled g.book c.requires
