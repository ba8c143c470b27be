use Rattle.std.proofs.Common.{◌≡◌, map, take}
use Rattle.mcs_plan_source.specs.Saying.{said}
use Rattle.mcs_plan_layout.specs.Tables.{table_rows, table_of}
use Rattle.mcs_plan_layout.proofs.laid.PlanLayout.tables_of.Given as goal

abbrev pub invariant-loop-thread : goal.invariant-loop-thread
invariant-loop-thread l =
    table_rows l.tables.items ≡ map (λ t. table_of l.self.layouts.items (said l.self.plan).spaces t.space) (take l.thread-index l.self.plan.threads.items)
