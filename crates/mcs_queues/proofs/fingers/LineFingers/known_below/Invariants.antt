use Rattle.std.proofs.Common.{◌<◌}
use Rattle.mcs_queues.proofs.fingers.LineFingers.known_below.Given as goal

abbrev pub invariant-loop-bits : goal.invariant-loop-bits
invariant-loop-bits l = l.word < 4

abbrev pub decreases-loop-bits : goal.decreases-loop-bits
decreases-loop-bits l = l.word
