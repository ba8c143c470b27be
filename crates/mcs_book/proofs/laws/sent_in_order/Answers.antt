use Rattle.mcs_book.proofs.SoundLogs.SoundBooks.{legal-takes_in_order}
use Rattle.mcs_book.proofs.laws.sent_in_order.Goals as goal

pub returns : goal.returns
returns g c = legal-takes_in_order g.book c.requires
