use Rattle.std.proofs.Common.{sym, ◌∙◌}
use Rattle.mcs_plan_layout.specs.Naming.{is_row}
use Rattle.mcs_plan_layout.proofs.Rows.{passed_over, first_passes}
use Rattle.mcs_plan_layout.proofs.laid.first_row.Goals as goal

pub loop-named-preserved : goal.loop-named-preserved
loop-named-preserved c =
    passed_over (is_row c.args.word.now) c.args.table.now c.loop-named.named-index c.named-item.result c.loop-named-test.true c.named-item.is
    c.loop-named.invariant (sym c.is_row.ensures ∙ c.if-is_row.false)

pub returns-then-is_row : goal.returns-then-is_row
returns-then-is_row c =
    sym (first_passes (is_row c.args.word.now) c.args.table.now c.loop-named.named-index c.named-item.result c.loop-named-test.true c.named-item.is
    c.loop-named.invariant (sym c.is_row.ensures ∙ c.if-is_row.true))
