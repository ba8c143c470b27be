use Rattle.std.proofs.Common.{ap, ◌∙◌}
use Rattle.mcs_plan_layout.specs.Laid.{laid_said}
use Rattle.mcs_plan_compile.proofs.Said.{handed_at}
use Rattle.mcs_plan_compile.proofs.Taken.{next_taken, step_refused, all_taken}
use Rattle.mcs_plan_compile.proofs.compiler.read_steps.Goals as goal

pub loop-count-preserved : goal.loop-count-preserved
loop-count-preserved c = (
  next_taken (laid_said c.args.compiler.now.laid) (laid_said c.loop-count.compiler.laid) (ap (λ l. laid_said l) c.loop-count.invariant.1) c.args.lines.now c.loop-count.count _ c.loop-count-test.true
      c.loop-count.compiler.entries _ c.loop-count.invariant.0 c.take_next.new.compiler.entries c.in_ok-take_next.ensures.taken,
  c.take_next.ensures.laid ∙ c.loop-count.invariant.1,
)

pub returns-in_err-take_next-clause-error : goal.returns-in_err-take_next-clause-error
returns-in_err-take_next-clause-error c =
    handed_at _ c.in_err-take_next.field-0.0 _ c.from_residual.ensures.1
    (step_refused (laid_said c.args.compiler.now.laid) (laid_said c.loop-count.compiler.laid) (ap (λ l. laid_said l) c.loop-count.invariant.1) c.args.lines.now c.loop-count.count _ c.loop-count-test.true
    c.loop-count.compiler.entries _ c.loop-count.invariant.0 c.in_err-take_next.field-0.0 c.in_err-take_next.ensures.error)

pub returns-in_err-take_next-clause-laid : goal.returns-in_err-take_next-clause-laid
returns-in_err-take_next-clause-laid c = c.take_next.ensures.laid ∙ c.loop-count.invariant.1

pub returns-clause-taken : goal.returns-clause-taken
returns-clause-taken c =
    all_taken (laid_said c.args.compiler.now.laid) c.args.lines.now c.loop-count.count c.loop-count.compiler.entries _ c.loop-count-test.false c.loop-count.invariant.0
