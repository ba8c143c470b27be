use Rattle.std.proofs.Common.{◌≡◌, ◌++◌, take, map}
use Rattle.mcs_plan_layout.specs.Boot.{root_line}
use Rattle.mcs_plan_layout.proofs.laid.PlanLayout.make_roots.Given as goal

abbrev pub invariant-loop-layout : goal.invariant-loop-layout
invariant-loop-layout l = l.to.items ≡ l.initial.to.items ++ map root_line (take l.layout-index l.self.layouts.items)
