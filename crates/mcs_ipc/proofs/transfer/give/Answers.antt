use Rattle.mcs_book.specs.Taking.{give}
use Rattle.mcs_ipc.proofs.transfer.give.Goals as goal

pub give_back-requires-clause-room : goal.give_back-requires-clause-room
unfolding give
give_back-requires-clause-room g c = rw c.context-own.ensures.context c.requires.room

pub returns : goal.returns
unfolding give
returns g c = rw (← c.context-own.ensures.context) c.give_back.ensures
