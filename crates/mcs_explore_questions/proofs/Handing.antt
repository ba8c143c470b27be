-- A fault that is handed on.
use Rattle.std.proofs.Common.{◌≡◌, false, Option, None, Result, Ok, Err, sym, subst, IfErr}
use Rattle.std.specs.Result.{IsErrAnd}
use Rattle.mcs_explore_questions.specs.declared.fault.QuestionFault.{QuestionFault}
use Rattle.mcs_explore_questions.specs.Reading.{Refuses, is_of_memory}

pub handed_on : {T X : Type 0} (r : Result T QuestionFault) (e : QuestionFault) (whole : Option X) → IsErrAnd r (λ d. d ≡ e) → (is_of_memory e ≡ false → whole ≡ None)
    → IfErr r (Refuses whole)
handed_on (Ok x) e whole h f = absurd h
handed_on (Err d) e whole h f = subst (λ (v : QuestionFault). Refuses whole v) (sym h) f
