use Rattle.std.proofs.Common.{sym, ◌∙◌}
use Rattle.mcs_plan_source.specs.Naming.{texts}
use Rattle.mcs_plan_compile.specs.Reading.{plan_said}
use Rattle.mcs_plan_compile.proofs.Said.{front_is, handed_at}
use Rattle.mcs_plan_compile.proofs.compiler.read_front.Goals as goal

pub returns-in_err-plan-clause-error : goal.returns-in_err-plan-clause-error
returns-in_err-plan-clause-error c =
    handed_at _ c.in_err-plan.field-0.0 (plan_said (texts c.args.lines.now)) c.from_residual.ensures.1
    (λ e error. sym (front_is c.args.lines.now c.count_before-before.result c.count_before-before.ensures.value) ∙ c.in_err-plan.ensures.error e error)

pub returns-clause-said : goal.returns-clause-said
returns-clause-said c = sym (front_is c.args.lines.now c.count_before-before.result c.count_before-before.ensures.value) ∙ c.in_ok-plan.ensures.said
