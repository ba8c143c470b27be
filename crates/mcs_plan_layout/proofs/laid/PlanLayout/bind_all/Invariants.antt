use Rattle.std.proofs.Common.{◌≡◌, ◌++◌, take, map}
use Rattle.mcs_plan_layout.specs.Boot.{tie_line}
use Rattle.mcs_plan_layout.proofs.laid.PlanLayout.bind_all.Given as goal

abbrev pub invariant-loop-tie : goal.invariant-loop-tie
invariant-loop-tie l = l.to.items ≡ l.initial.to.items ++ map tie_line (take l.tie-index l.self.plan.ties.items)
