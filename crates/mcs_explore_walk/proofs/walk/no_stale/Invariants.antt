use Rattle.std.proofs.Common.{◌≡◌, ◌++◌, ◌-◌}
use Rattle.mcs_turns.specs.Due.{none_stale}
use Rattle.mcs_explore_walk.proofs.walk.no_stale.Given as goal

abbrev pub invariant-loop-core : goal.invariant-loop-core
invariant-loop-core l = none_stale l.cores ≡ l.stale.items ++ none_stale (l.cores - l.core)
