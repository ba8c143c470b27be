use Rattle.std.proofs.Common.{◌≡◌, true, false, refl, ap, sym, ◌∙◌}
use Rattle.std.proofs.lemmas.Option.{slice_get_read}
use Rattle.mcs_explore_questions.specs.Asking.{is_question}
use Rattle.mcs_explore_script.specs.declared.questions.AskedLine.{AskedLine}
use Rattle.mcs_explore_search.proofs.Places.{some-same}
use Rattle.mcs_explore_report.proofs.report.push_judged.Goals as goal

pub returns-in_ok-push : goal.returns-in_ok-push
returns-in_ok-push g c = record {
  asks = λ q at yes. record { judged = c.in_ok-judged.field-0; added = c.in_ok-push.ensures.items; held = c.in_ok-judged.ensures.held; missed = c.in_ok-judged.ensures.missed };
  other = λ q at not.
      let here = slice_get_read c.args.findings.now.script.now.asked.items _ c.args.number c.index.result.now refl c.requires c.index.ensures in
      let same = some-same c.index.result.now q (sym here ∙ at) in
      let no : true ≡ false = sym c.if-is_question.true ∙ (c.is_question.ensures ∙ (ap (λ (x : AskedLine). is_question x.asked) same ∙ not)) in
      absurd cc;
}

pub returns-else-is_question : goal.returns-else-is_question
returns-else-is_question g c = record {
  asks = λ q at yes.
      let here = slice_get_read c.args.findings.now.script.now.asked.items _ c.args.number c.index.result.now refl c.requires c.index.ensures in
      let same = some-same c.index.result.now q (sym here ∙ at) in
      let no : false ≡ true = sym c.if-is_question.false ∙ (c.is_question.ensures ∙ (ap (λ (x : AskedLine). is_question x.asked) same ∙ yes)) in
      absurd cc;
  other = λ q at not. refl;
}
