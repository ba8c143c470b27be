use Rattle.mcs_book.proofs.Small.FairBooks.{answered-legal, answered-fair}
use Rattle.mcs_book.proofs.broken.answered_is_fair.Goals as goal

pub returns : goal.returns
returns c = record { legal = answered-legal; fair = answered-fair }
