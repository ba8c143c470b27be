use Rattle.mcs_book.proofs.SoundLogs.SoundBooks.{legal-sound}
use Rattle.mcs_book.proofs.laws.sound.Goals as goal

pub returns : goal.returns
returns g c = legal-sound g.book c.requires
