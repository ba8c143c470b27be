use Rattle.std.specs.Prelude.{◌≡◌, None, replicate}
use Rattle.mcs_explore_walk.proofs.walk.no_picks.Given as goal

abbrev pub invariant-loop-core : goal.invariant-loop-core
invariant-loop-core l = l.picks.items ≡ replicate l.core None
