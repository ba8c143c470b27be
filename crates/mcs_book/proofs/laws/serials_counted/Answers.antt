use Rattle.mcs_book.proofs.SoundLogs.SoundBooks.{legal-next_id}
use Rattle.mcs_book.proofs.laws.serials_counted.Goals as goal

pub returns : goal.returns
returns g c = legal-next_id g.book c.requires
