use Rattle.std.specs.Prelude.{false}
use Rattle.std.specs.List.{list_any}
use Rattle.std.proofs.Common.{ap, sym, subst, ◌∙◌}
use Rattle.mcs_text.specs.Reading.{words_of}
use Rattle.mcs_explore_questions.specs.declared.questions.Asked.{Asked}
use Rattle.mcs_explore_questions.specs.declared.questions.Asked.TheVariants as asked
use Rattle.mcs_explore_report.specs.Judging.{IsDecided}
use Rattle.mcs_explore_report.specs.Naming.{is_message}
use Rattle.mcs_explore_report.proofs.Unnamed.{unnamed}
use Rattle.mcs_explore_report.proofs.references.names_message.Goals as goal

pub returns-in-Never-clause-decided : goal.returns-in-Never-clause-decided
returns-in-Never-clause-decided c = λ no.
    let none = ap (λ t. list_any is_message (words_of t)) (sym c.deref.ensures.value) ∙ sym c.has_message.ensures ∙ no in
    subst (λ (q : Asked). IsDecided false q) (sym c.in-Never.is) (unnamed (asked.Never c.in-Never.pattern) none)
