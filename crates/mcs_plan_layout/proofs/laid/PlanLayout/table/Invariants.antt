use Rattle.std.proofs.Common.{◌≡◌, slice_get}
use Rattle.mcs_plan_source.specs.Saying.{said, said_space}
use Rattle.mcs_plan_layout.specs.Boot.{each}
use Rattle.mcs_plan_layout.specs.Tables.{rows_of, row_at, own_rows}
use Rattle.mcs_plan_layout.proofs.laid.PlanLayout.table.Given as goal

abbrev pub invariant-loop-index : goal.invariant-loop-index
invariant-loop-index l =
    rows_of l.table.items ≡ each l.index (λ i. row_at (own_rows l.self.layouts.items (said l.self.plan).spaces l.place) i (slice_get (said_space l.space).slots i))
