use Rattle.mcs_book.proofs.SoundLogs.SoundBooks.{legal-answers_owed}
use Rattle.mcs_book.proofs.laws.answered_once.Goals as goal

pub returns : goal.returns
returns g c = legal-answers_owed g.book c.requires
