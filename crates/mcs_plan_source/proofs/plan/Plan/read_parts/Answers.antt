use Rattle.mcs_plan_source.specs.ThreadLines.{form_of}
use Rattle.mcs_plan_source.proofs.Refusing.{handed_on}
use Rattle.mcs_plan_source.proofs.Turns.{parts_refused}
use Rattle.mcs_plan_source.proofs.plan.Plan.read_parts.Goals as goal

pub returns-in_err-read_next-clause-error : goal.returns-in_err-read_next-clause-error
returns-in_err-read_next-clause-error c =
    handed_on _ _ _ c.from_residual.ensures.1 (λ e p.
    parts_refused c.loop.counter c.len-end.result c.args.self.now.cores c.loop.words (form_of c.loop.form) _ e c.loop-test.true
    (c.in_err-read_next.ensures.error e p) c.loop.invariant)
