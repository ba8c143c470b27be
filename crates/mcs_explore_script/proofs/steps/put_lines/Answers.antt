use Rattle.std.proofs.Common.{reverse, sym, ◌∙◌, arith}
use Rattle.mcs_trace.proofs.Outputs.{Puts-nil, Puts-text, Puts-then}
use Rattle.mcs_sim.proofs.FeedBooks.{lines-next}
use Rattle.mcs_sim.proofs.TraceLaws.{line-past}
use Rattle.mcs_explore_script.proofs.StepLines.{step-next}
use Rattle.mcs_explore_script.proofs.steps.put_lines.Goals as goal

pub loop-number-preserved : goal.loop-number-preserved
loop-number-preserved g c =
    let lines = reverse c.args.book.now.book.lines in
    let more = lines-next 0 lines c.loop-number.number c.in-Some.line (omega (arith, c.loop-number.auto.number)) (sym c.in-Some.is ∙ c.line.ensures) in
    Puts-text _ _ _ _ _ (Puts-then _ _ _ _ _ _ c.loop-number.invariant c.put_line.ensures) (step-next lines c.loop-number.number c.in-Some.line more)

pub loop-number-init : goal.loop-number-init
loop-number-init g c = Puts-nil _ _

pub unreachable-requires : goal.unreachable-requires
unreachable-requires g c =
    line-past c.args.book.now.book c.loop-number.number (omega (arith, c.loop-number.auto.number)) (sym c.in-None.is ∙ c.line.ensures) (omega (arith, c.loop-number-test.true, c.lines-number-end.ensures))
