use Rattle.mcs_plan_source.specs.Saying.{said, nothing_said}
use Rattle.mcs_plan_source.specs.Naming.{texts}
use Rattle.mcs_plan_compile.specs.Reading.{lines_said}
use Rattle.mcs_plan_compile.proofs.Said.{line_refused}
use Rattle.mcs_plan_compile.proofs.compiler.read_plan.Goals as goal

pub returns-in-Err-clause-error : goal.returns-in-Err-clause-error
returns-in-Err-clause-error c =
    line_refused c.args.lines.now c.loop-count.count _ c.loop-count-test.true (said c.loop-count.plan) (lines_said 0 (texts c.args.lines.now) nothing_said)
    c.in-Err.fault c.in-Err.ensures.error c.loop-count.invariant
