use Rattle.std.proofs.Common.{refl, sym, ◌∙◌, arith}
use Rattle.mcs_lab_diagram.proofs.StrokeLaws.{none-past}
use Rattle.mcs_lab_diagram.proofs.arrows.Strokes.add_line.Goals as goal

pub loop-i-init : goal.loop-i-init
loop-i-init c = refl

pub unreachable-requires : goal.unreachable-requires
unreachable-requires c =
    none-past c.args.line.now.records c.loop-i.i (sym c.in-None.is ∙ c.kept_record.ensures) (omega (arith, c.loop-i-test.true, c.record_count-i-end.ensures))
