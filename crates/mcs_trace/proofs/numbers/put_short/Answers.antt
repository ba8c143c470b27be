use Rattle.std.proofs.Common.{List, ℕ, ◌++◌, ◌∙◌, ap, take}
use Rattle.mcs_trace.proofs.Digits.{decimal-last}
use Rattle.mcs_trace.proofs.numbers.put_short.Goals as goal

pub returns-clause-text : goal.returns-clause-text
returns-clause-text c =
    let count = c.digit_count-count in
    let last = decimal-last c.args.n count.result c.requires.small count.ensures.one count.ensures.two count.ensures.three count.ensures.four in
    c.put_first_of.ensures.text ∙ ap (λ (l : List ℕ). take c.args.at c.args.buffer.now ++ l) (c.last_digits.ensures ∙ last)
