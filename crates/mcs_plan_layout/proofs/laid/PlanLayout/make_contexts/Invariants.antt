use Rattle.std.proofs.Common.{◌≡◌, ◌++◌, take, map}
use Rattle.mcs_plan_layout.specs.Boot.{context_line}
use Rattle.mcs_plan_layout.proofs.laid.PlanLayout.make_contexts.Given as goal

abbrev pub invariant-loop-core : goal.invariant-loop-core
invariant-loop-core l = l.to.items ≡ l.initial.to.items ++ map context_line (take l.core-index l.self.plan.contexts.items)
