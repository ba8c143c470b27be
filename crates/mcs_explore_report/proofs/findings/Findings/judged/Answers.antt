use Rattle.std.proofs.Common.{refl, sym, ◌∙◌, subst}
use Rattle.std.proofs.lemmas.Option.{slice_get_read}
use Rattle.mcs_explore_script.specs.declared.questions.AskedLine.{AskedLine}
use Rattle.mcs_explore_report.specs.Outcomes.{stuck_of}
use Rattle.mcs_explore_report.specs.Verdicts.{IsVerdict, failed_at}
use Rattle.mcs_explore_report.proofs.Judged.{stuck_not_live}
use Rattle.mcs_explore_search.proofs.Places.{some-same}
use Rattle.mcs_explore_report.proofs.findings.Findings.judged.Goals as goal

pub returns-clause-missed : goal.returns-clause-missed
returns-clause-missed g c = λ q at missed.
    let f = c.args.self.now in
    let asked = f.script.now.asked.items in
    let here = slice_get_read asked _ c.args.number c.index-question.result.now refl c.requires c.index-question.ensures in
    let same = some-same c.index-question.result.now q (sym here ∙ at) in
    let v = c.in_ok-verdict.verdict in
    let by = c.in_ok-outcome.ensures.missed missed in
    record {
      stuck = stuck_of asked f.places.items c.args.number;
      verdict = v;
      is = subst (λ (x : AskedLine). IsVerdict f.script.now.users f.ends f.orders.now.explorer.watch.answers (failed_at f.orders.now.explorer.watch.failed.items c.args.number) (stuck_of asked f.places.items c.args.number) x.asked v) same c.in_ok-verdict.ensures;
      stuck_is = stuck_not_live asked f.places.items c.args.number;
      fails = by.0;
      shown = by.1;
    }
