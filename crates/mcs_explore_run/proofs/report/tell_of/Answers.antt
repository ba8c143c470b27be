use Rattle.std.specs.Prelude.{◌≡◌, ◌||◌, true, not}
use Rattle.std.proofs.Common.{◌∙◌, ap, subst, sym}
use Rattle.mcs_explore_script.specs.declared.script.UserScript.{UserScript}
use Rattle.mcs_explore_report.specs.Outcomes.{are_done}
use Rattle.mcs_explore_run.specs.Samples.{any_fails}
use Rattle.mcs_explore_run.proofs.Failing.{failing}
use Rattle.mcs_explore_run.proofs.report.tell_of.Goals as goal

pub returns : goal.returns
returns g c = λ is.
    let r = c.in_ok-report.report in
    let script = c.args.script.now in
    let w = r.sample.watched in
    let any = sym c.has_failure.ensures ∙ is in
    let by_script = subst (λ (s : UserScript). (any_fails r.judged.items || not (are_done s.asked.items w.ends)) ≡ true) c.in_ok-report.ensures.script any in
    failing script w.ends w.answers w.failed.items c.in_ok-report.ensures.kept (any_fails r.judged.items) c.in_ok-report.ensures.judged by_script
