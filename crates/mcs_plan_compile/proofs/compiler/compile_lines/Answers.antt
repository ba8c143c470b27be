use Rattle.std.proofs.lemmas.Result.{IfErr-weaker}
use Rattle.mcs_plan_source.specs.Naming.{texts}
use Rattle.mcs_plan_source.specs.Saying.{said}
use Rattle.mcs_plan_compile.specs.Telling.{TellsLines}
use Rattle.mcs_plan_compile.proofs.Said.{handed, no_starter, refused_after}
use Rattle.mcs_plan_compile.proofs.compiler.compile_lines.Goals as goal

pub returns-in_err-laid-clause-error : goal.returns-in_err-laid-clause-error
returns-in_err-laid-clause-error c =
    handed _ c.in_err-laid.field-0.0 (λ fault. TellsLines (texts c.args.lines.now) fault) c.from_residual-in_err-laid.ensures.1
    (no_starter (texts c.args.lines.now) (said c.in_ok-plan.plan) c.in_err-laid.field-0.0 c.in_ok-plan.ensures.said c.in_err-laid.ensures.error)

pub returns-clause-error : goal.returns-clause-error
returns-clause-error c =
    IfErr-weaker c.compile_laid.result _ _
    (λ fault error. refused_after (texts c.args.lines.now) (said c.in_ok-plan.plan) c.in_ok-laid.laid fault c.in_ok-plan.ensures.said c.in_ok-laid.ensures.plan c.in_ok-laid.ensures.laid error)
    c.compile_laid.ensures.error
