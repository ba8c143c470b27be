use Rattle.mcs_book.proofs.SoundLogs.SoundBooks.{legal-takes_first}
use Rattle.mcs_book.proofs.laws.by_priority.Goals as goal

pub returns : goal.returns
returns g c = legal-takes_first g.book c.requires
