use Rattle.std.proofs.Common.{◌<◌, ◌≤◌, length, ap, ◌∙◌, arith}
use Rattle.mcs_plan_source.specs.Saying.{said}
use Rattle.mcs_plan_layout.specs.Laid.{laid_said}
use Rattle.mcs_plan_compile.proofs.Said.{handed_at}
use Rattle.mcs_plan_compile.proofs.Opened.{next_opened, opening_refused, all_opened, passives_said}
use Rattle.mcs_plan_compile.proofs.compiler.Compiler.open_each.Goals as goal

pub loop-place-preserved : goal.loop-place-preserved
loop-place-preserved c =
    let within : c.loop-place.place < length (said c.args.self.now.laid.plan).passives =
    omega (arith, c.loop-place-test.true, c.len-place-end.ensures, passives_said c.args.self.now.laid.plan) in (
      next_opened (laid_said c.args.self.now.laid) c.loop-place.place within (laid_said c.loop-place.self.laid) _ (ap (λ l. laid_said l) c.loop-place.invariant.1) c.loop-place.invariant.0
          c.in_ok-open.ensures.added,
      c.open.ensures.laid ∙ c.loop-place.invariant.1,
      c.open.ensures.entries ∙ c.loop-place.invariant.2,
    )

pub returns-in_err-open-clause-error : goal.returns-in_err-open-clause-error
returns-in_err-open-clause-error c =
    let within : c.loop-place.place < length (said c.args.self.now.laid.plan).passives =
    omega (arith, c.loop-place-test.true, c.len-place-end.ensures, passives_said c.args.self.now.laid.plan) in
    handed_at _ c.in_err-open.field-0.0 _ c.from_residual.ensures.1
    (opening_refused (laid_said c.args.self.now.laid) c.loop-place.place within (laid_said c.loop-place.self.laid) _ c.in_err-open.field-0.0
    (ap (λ l. laid_said l) c.loop-place.invariant.1) c.loop-place.invariant.0 c.in_err-open.ensures.error)

pub returns-clause-added : goal.returns-clause-added
returns-clause-added c =
    let past : length (said c.args.self.now.laid.plan).passives ≤ c.loop-place.place =
    omega (arith, c.loop-place-test.false, c.len-place-end.ensures, passives_said c.args.self.now.laid.plan) in
    all_opened (laid_said c.args.self.now.laid) c.loop-place.place _ past c.loop-place.invariant.0
