use Rattle.mcs_book.proofs.SoundLogs.SoundBooks.{legal-sound}
use Rattle.mcs_book.proofs.WholeMessages.Lines.{sound-answers_whole}
use Rattle.mcs_book.proofs.laws.answered_whole.Goals as goal

pub returns : goal.returns
returns g c = sound-answers_whole g.book c.requires (legal-sound g.book c.requires)
