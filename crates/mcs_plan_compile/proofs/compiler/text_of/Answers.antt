use Rattle.std.proofs.Common.{◌≡◌, Err, ap, ◌∙◌}
use Rattle.std.proofs.lemmas.Str.{is_utf8-from_IsUtf8}
use Rattle.mcs_plan_source.specs.Refusals.{no_text}
use Rattle.mcs_plan_compile.proofs.Said.{no_text_there}
use Rattle.mcs_plan_compile.specs.Telling.{line_of}
use Rattle.mcs_plan_compile.proofs.compiler.text_of.Goals as goal

pub returns-in-Ok-clause-utf8 : goal.returns-in-Ok-clause-utf8
returns-in-Ok-clause-utf8 c = is_utf8-from_IsUtf8 c.args.bytes.now c.in-Ok.ensures.cases.1

pub returns-in-Err-clause-error : goal.returns-in-Err-clause-error
returns-in-Err-clause-error c = λ e error.
    let same : no_text ≡ e = cc in
    no_text_there c.args.bytes.now c.line_of.result c.in-Err.ensures.cases.0
    (c.line_of.ensures ∙ ap (λ n. line_of c.args.bytes.now n) (c.valid_up_to.ensures ∙ c.in-Err.ensures.valid_len))
    ∙ ap (λ f. Err (c.line_of.result, f)) same
