use Rattle.std.proofs.Common.{◌≡◌, ◌++◌, take, map}
use Rattle.mcs_plan_layout.specs.Boot.{thread_line}
use Rattle.mcs_plan_layout.proofs.laid.PlanLayout.make_threads.Given as goal

abbrev pub invariant-loop-thread : goal.invariant-loop-thread
invariant-loop-thread l = l.to.items ≡ l.initial.to.items ++ map (thread_line l.self.layouts.items) (take l.thread-index l.self.plan.threads.items)
