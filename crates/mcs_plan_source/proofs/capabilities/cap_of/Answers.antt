use Rattle.std.proofs.Common.{sym, ap, ◌∙◌}
use Rattle.mcs_plan_source.specs.Naming.{find}
use Rattle.mcs_plan_source.proofs.Refusing.{cap_refused}
use Rattle.mcs_plan_source.proofs.capabilities.cap_of.Goals as goal

pub returns-in-None-clause-error : goal.returns-in-None-clause-error
returns-in-None-clause-error c = λ e p.
    cap_refused c.args.names.now c.args.word.now c.in_ok-obj.obj _ e (ap (λ name. find c.args.names.now name) (sym c.parts_of.ensures.name) ∙ c.in_ok-obj.ensures.found)
    (sym c.cap_to.ensures ∙ c.in-None.is) c.not.ensures p
