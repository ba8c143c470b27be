use Rattle.mcs_explore_walk.proofs.Turning.{HasNoneBelow}
use Rattle.mcs_explore_walk.proofs.walk.Walk.is_over.Given as goal

abbrev pub invariant-loop-index : goal.invariant-loop-index
invariant-loop-index g l = HasNoneBelow l.users l.self l.turns l.index
