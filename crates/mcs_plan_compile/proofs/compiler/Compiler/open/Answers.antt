use Rattle.std.proofs.Common.{◌≡◌, Ok, OnOk, IfErr, sym, subst}
use Rattle.mcs_plan_layout.specs.Laid.{laid_said}
use Rattle.mcs_plan_compile.specs.Reading.{ReadAt, RefusesAt}
use Rattle.mcs_plan_compile.proofs.Opened.{same_opening}
use Rattle.mcs_plan_compile.proofs.compiler.Compiler.open.Goals as goal

pub returns-clause-added : goal.returns-clause-added
returns-clause-added c =
    subst (λ (r : ReadAt (Unit {0})). OnOk c.do_opening.result (r ≡ Ok tt))
    (sym (same_opening (laid_said c.args.self.now.laid) c.args.place c.in_ok-opening.opening c.in_ok-opening.ensures.opening)) c.do_opening.ensures.added

pub returns-clause-error : goal.returns-clause-error
returns-clause-error c =
    subst (λ (r : ReadAt (Unit {0})). IfErr c.do_opening.result (RefusesAt r))
    (sym (same_opening (laid_said c.args.self.now.laid) c.args.place c.in_ok-opening.opening c.in_ok-opening.ensures.opening)) c.do_opening.ensures.error
