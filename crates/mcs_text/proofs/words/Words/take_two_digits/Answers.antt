use Rattle.std.proofs.Common.{◌≡◌, ◌<◌, [], true, take, subst, sym, ap, ◌∙◌, arith}
use Rattle.std.proofs.lemmas.List.{take_rest, take_all}
use Rattle.mcs_text.specs.Reading.{words_left, words_of, is_number, value}
use Rattle.mcs_text.proofs.WordLaws.{words_of-digits, words_of-number, number_at-is, number-digits}
use Rattle.mcs_text.proofs.words.Words.take_two_digits.Goals as goal

pub returns-then-text-eq2-clause-some : goal.returns-then-text-eq2-clause-some
returns-then-text-eq2-clause-some c =
    let text = c.in_ok-text.text.now in
    let whole : c.args.self.now ≡ words_of text = sym c.self.view_is ∙ ap words_left c.in_ok-text.was in
    let found = c.in_ok-n.ensures in
    let small : c.in_ok-n.n < 18446744073709551616 = omega arith in
    let all : take 2 text ≡ text = take_all 2 text (omega arith) in
    let number : is_number text ≡ true = subst (λ t. is_number t ≡ true) all found.number in
    let is : value text ≡ c.in_ok-n.n = subst (λ t. value t ≡ c.in_ok-n.n) all found.value in
    rw (whole, words_of-number text (number-digits text number)) (number_at-is text [] c.in_ok-n.n number is small)

pub returns-clause-some : goal.returns-clause-some
returns-clause-some c =
    let text = c.in_ok-text.text.now in
    let whole : c.args.self.now ≡ words_of text = sym c.self.view_is ∙ ap words_left c.in_ok-text.was in
    let found = c.in_ok-n.ensures in
    let small : c.in_ok-n.n < 18446744073709551616 = omega arith in
    let split = words_of-digits text 2 (omega (arith, found.within, c.if-text-eq2.false)) c.if-text-ne32.false (number-digits (take 2 text) found.number) in
    rw (take_rest, whole, split) (number_at-is _ _ c.in_ok-n.n found.number found.value small)
