use Rattle.std.proofs.Common.{◌<◌, length, arith}
use Rattle.std.proofs.lemmas.Grind.{common_steps}
use Rattle.std.proofs.lemmas.Result.{IfErr-weaker}
use Rattle.mcs_plan_source.specs.Saying.{said}
use Rattle.mcs_plan_layout.specs.Laid.{laid_said}
use Rattle.mcs_plan_compile.proofs.Opened.{left_refused, passives_said}
use Rattle.mcs_plan_compile.proofs.compiler.Compiler.leave.Goals as goal

pub returns-clause-error : goal.returns-clause-error
returns-clause-error c =
    let some : 0 < length c.args.self.now.laid.plan.passives.items = grind (arith, common_steps, c.is_empty.ensures, c.if-is_empty.false) in
    let said_some : 0 < length (said c.args.self.now.laid.plan).passives = omega (arith, some, passives_said c.args.self.now.laid.plan) in
    IfErr-weaker c.at.result _ _
    (λ fault h. left_refused (laid_said c.args.self.now.laid) c.starter_head-starter.result c.add_step.result fault said_some
    c.starter_head-starter.ensures c.add_step.ensures.error h.0 h.1)
    c.at.ensures.err
