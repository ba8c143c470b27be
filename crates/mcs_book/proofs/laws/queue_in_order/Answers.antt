use Rattle.mcs_book.proofs.Queues.QueueLaws.{queued_in-growing}
use Rattle.mcs_book.proofs.laws.queue_in_order.Goals as goal

pub returns : goal.returns
returns g c = queued_in-growing g.at.0 g.at.1 c.requires
