use Rattle.mcs_book.proofs.Small.TurnBook.{turns-legal, turns-fair}
use Rattle.mcs_book.proofs.broken.taken_in_turn_is_fair.Goals as goal

pub returns : goal.returns
returns c = record { legal = turns-legal; fair = turns-fair }
