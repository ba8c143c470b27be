use Rattle.std.proofs.Common.{◌≡◌, true, take}
use Rattle.mcs_plan_layout.specs.Fitting.{are_housed}
use Rattle.mcs_plan_layout.proofs.limits.are_housed.Given as goal

abbrev pub invariant-loop-thread : goal.invariant-loop-thread
invariant-loop-thread l = are_housed (take l.thread-index l.threads) ≡ true
