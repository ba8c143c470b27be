use Rattle.std.proofs.Common.{◌≡◌}
use Rattle.mcs_explore_walk.specs.Walks.{turns_below}
use Rattle.mcs_explore_walk.proofs.walk.Walk.turns_below.Given as goal

abbrev pub invariant-loop-core : goal.invariant-loop-core
invariant-loop-core g l = l.turns.items ≡ turns_below l.self l.picks l.core
