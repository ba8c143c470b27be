use Rattle.mcs_trace.proofs.Outputs.{Puts-then, Puts-nil}
use Rattle.mcs_text.proofs.Pieces.{flat_map-take}
use Rattle.mcs_sim.proofs.trace_text.put_boot.Goals as goal

pub loop-line-preserved : goal.loop-line-preserved
loop-line-preserved g c =
    rw (flat_map-take _ c.args.lines.now c.loop-line.line-index c.line-item.result c.loop-line-test.true, ← c.line-item.is)
    (Puts-then _ _ _ _ _ _ c.loop-line.invariant c.put_boot_line.ensures)

pub loop-line-init : goal.loop-line-init
loop-line-init g c = Puts-nil _ _
