use Rattle.mcs_book.proofs.WholeMessages.Lines.{legal-whole}
use Rattle.mcs_book.proofs.whole.messages_whole.Goals as goal

pub returns : goal.returns
returns g c = legal-whole g.book c.requires
