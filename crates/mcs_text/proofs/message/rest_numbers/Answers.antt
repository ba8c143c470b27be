use Rattle.std.proofs.Common.{Ok, Some, sym, ap, ◌∙◌}
use Rattle.mcs_text.proofs.WordLaws.{kept-end}
use Rattle.mcs_text.proofs.message.rest_numbers.Goals as goal

pub returns-in-None : goal.returns-in-None
returns-in-None c =
    sym c.few_numbers-count.ensures.value ∙ kept-end _ _ (sym c.in-None.ensures) ∙ ap (λ ms. Ok (Some ms)) (sym c.of_few-kept.ensures.items)
