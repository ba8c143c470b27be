use Rattle.mcs_explore_walk.proofs.Scheduled.{ArePickedBelow}
use Rattle.mcs_explore_walk.proofs.walk.Walk.picks_by.Given as goal

abbrev pub invariant-loop-user : goal.invariant-loop-user
invariant-loop-user g l = ArePickedBelow l.users l.self l.core l.user l.picks
