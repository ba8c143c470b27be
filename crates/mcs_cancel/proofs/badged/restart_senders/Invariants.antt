use Rattle.std.proofs.Common.{length}
use Rattle.mcs_state.specs.Now.{so_far}
use Rattle.mcs_cancel.proofs.Restarting.{senders_from, IsUnderWay}
use Rattle.mcs_cancel.proofs.badged.restart_senders.Given as goal

abbrev pub invariant-loop-at : goal.invariant-loop-at
invariant-loop-at g l = IsUnderWay l.fn.endpoint l.badge.0 l.at l.fn.state l.state

abbrev pub decreases-loop-at : goal.decreases-loop-at
decreases-loop-at g l = length (senders_from (so_far l.state) l.fn.endpoint l.at)
