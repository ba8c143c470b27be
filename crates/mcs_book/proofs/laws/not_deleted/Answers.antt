use Rattle.mcs_book.proofs.SoundLogs.SoundBooks.{legal-takes_alive}
use Rattle.mcs_book.proofs.laws.not_deleted.Goals as goal

pub returns : goal.returns
returns g c = legal-takes_alive g.book c.requires
