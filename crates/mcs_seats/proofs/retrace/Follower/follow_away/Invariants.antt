use Rattle.mcs_seats.specs.Trails.{AreRightTo}
use Rattle.mcs_seats.proofs.retrace.Follower.follow_away.Given as goal

abbrev pub invariant-loop-i : goal.invariant-loop-i
invariant-loop-i g l = AreRightTo l.self l.i
