use Rattle.mcs_explore_walk.proofs.Scheduled.{ArePicksBelow}
use Rattle.mcs_explore_walk.proofs.walk.Walk.picks.Given as goal

abbrev pub invariant-loop-core : goal.invariant-loop-core
invariant-loop-core g l = ArePicksBelow l.users l.self l.core l.picks.items
