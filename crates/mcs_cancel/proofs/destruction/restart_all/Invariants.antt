use Rattle.std.proofs.Common.{length}
use Rattle.mcs_book.specs.Queues.{queued_in}
use Rattle.mcs_state.specs.Now.{so_far}
use Rattle.mcs_cancel.proofs.Emptying.{IsEmptying}
use Rattle.mcs_cancel.proofs.destruction.restart_all.Given as goal

abbrev pub invariant-loop-thread : goal.invariant-loop-thread
invariant-loop-thread g l = IsEmptying l.fn.queue l.fn.state l.state

abbrev pub decreases-loop-thread : goal.decreases-loop-thread
decreases-loop-thread g l = length (queued_in (so_far l.state) l.fn.queue)
