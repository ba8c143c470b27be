use Rattle.mcs_book.proofs.SoundLogs.SoundBooks.{legal-made_once}
use Rattle.mcs_book.proofs.laws.made_once.Goals as goal

pub returns : goal.returns
returns g c = legal-made_once g.book c.requires
