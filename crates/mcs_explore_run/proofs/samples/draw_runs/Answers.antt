use Rattle.std.specs.Prelude.{List}
use Rattle.std.proofs.Common.{◌∙◌, ap, subst}
use Rattle.mcs_explore_orders.specs.Shown.{nothing}
use Rattle.mcs_explore_script.specs.declared.questions.AskedLine.{AskedLine}
use Rattle.mcs_explore_report.specs.Kept.{Aims, IsKept}
use Rattle.mcs_explore_report.proofs.Seeing.{begun}
use Rattle.mcs_explore_run.proofs.Sights.{nothing-shown}
use Rattle.mcs_explore_run.proofs.samples.draw_runs.Goals as goal

pub loop-number-init : goal.loop-number-init
loop-number-init c =
    let w = c.in_ok-watched.watched in
    let script = c.args.script.now in
    let has = begun script.users w.asked.now w.lives.lives w.ends w.answers w.failed.items w.lives.notes c.in_ok-watched.ensures.ends c.in_ok-watched.ensures.answers c.in_ok-watched.ensures.failed c.in_ok-watched.ensures.notes in
    (c.in_ok-watched.ensures.asked ∙ c.deref.ensures.value, (nothing, (nothing-shown script.users script.boot, has)))

pub loop-number-preserved : goal.loop-number-preserved
loop-number-preserved c =
    let kept = c.loop-number.invariant in
    let seen = c.in_ok-is_over.ensures.sees (record { shown = kept.1.0; has = kept.1.1.1; are = kept.1.1.0 }) in
    (ap (λ (a : Aims). a.asked) c.in_ok-is_over.ensures.aim ∙ kept.0, (seen.shown, (seen.are, seen.has)))

pub returns : goal.returns
returns c =
    let kept = c.loop-number.invariant in
    let w = c.loop-number.watched in
    record {
      shown = kept.1.0;
      are = kept.1.1.0;
      kept = subst (λ (qs : List AskedLine). IsKept c.args.script.now.users qs kept.1.0 w.ends w.answers w.failed.items) kept.0 kept.1.1.1.kept;
    }
