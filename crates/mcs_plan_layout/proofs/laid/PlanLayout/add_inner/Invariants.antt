use Rattle.std.proofs.Common.{◌≡◌, ◌++◌, slice_get}
use Rattle.mcs_plan_source.specs.Saying.{said_space}
use Rattle.mcs_plan_layout.specs.Boot.{each}
use Rattle.mcs_plan_layout.specs.Tables.{rows_of, row_at, inner_slot}
use Rattle.mcs_plan_layout.proofs.laid.PlanLayout.add_inner.Given as goal

abbrev pub invariant-loop-index : goal.invariant-loop-index
invariant-loop-index l =
    rows_of l.to.items
    ≡ rows_of l.initial.to.items ++ each l.index (λ i. row_at (inner_slot l.self.layouts.items l.held.outer.now l.held.first l.held.space) i (slice_get (said_space l.space).slots i))
