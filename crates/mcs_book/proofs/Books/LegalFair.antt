-- Every legal book is fair: all the laws at once.
use Rattle.mcs_book.specs.History.{Book, IsLegal}
use Rattle.mcs_book.specs.Fair.{IsFair}
use Rattle.mcs_book.proofs.Messages.TakenOnce.{legal-taken_once}
use Rattle.mcs_book.proofs.Queues.NoneBeside.{legal-none_beside}
use Rattle.mcs_book.proofs.Messages.SendersOpen.{legal-not_cancelled}
use Rattle.mcs_book.proofs.SoundLogs.SoundBooks.{legal-answers_owed, legal-sound, legal-takes_alive, legal-takes_first, legal-takes_in_order}
use Rattle.mcs_book.proofs.WholeMessages.Lines.{legal-whole, sound-answers_whole}

-- a legal book is fair
pub legal-fair : (b : Book) → IsLegal b → IsFair b
legal-fair b legal = record {
  taken_once = legal-taken_once b legal;
  whole = legal-whole b legal;
  by_priority = legal-takes_first b legal;
  in_order = legal-takes_in_order b legal;
  not_deleted = legal-takes_alive b legal;
  not_cancelled = legal-not_cancelled b legal;
  answered_once = legal-answers_owed b legal;
  answered_whole = sound-answers_whole b legal (legal-sound b legal);
  none_beside = legal-none_beside b legal;
}
