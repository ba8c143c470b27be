use Rattle.std.proofs.Common.{sym, ◌∙◌, arith}
use Rattle.mcs_lab_diagram.proofs.StrokeLaws.{none-past}
use Rattle.mcs_lab_diagram.proofs.DroppedLaws.{accepts_none_passes}
use Rattle.mcs_lab_diagram.proofs.dropped.accepts_none.Goals as goal

pub unreachable-requires : goal.unreachable-requires
unreachable-requires c =
    none-past c.args.line.now.records c.loop-i.i (sym c.in-None.is ∙ c.kept_record.ensures) (omega (arith, c.loop-i-test.true, c.record_count-i-end.ensures))

pub loop-i-preserved : goal.loop-i-preserved
loop-i-preserved c =
    accepts_none_passes c.args.line.now.records c.loop-i.i c.in-Some.kept c.loop-i.invariant (sym c.kept_record.ensures ∙ c.in-Some.is)
    (sym c.in_ok-kept_accepts-in-Some.ensures ∙ c.if-branch.false)
