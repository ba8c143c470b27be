use Rattle.std.proofs.Common.{◌≡◌, true, get_or, rules, sym, ap, ◌∙◌}
use Rattle.std.proofs.lemmas.List.{take_rest}
use Rattle.mcs_text.specs.Reading.{words_left, words_of, is_digit}
use Rattle.mcs_text.proofs.WordLaws.{number_at-one, number_at-two}
use Rattle.mcs_text.proofs.words.Words.take_digit.Goals as goal

pub returns-clause-some : goal.returns-clause-some
returns-clause-some c =
    let text = c.in_ok-text.text.now in
    let whole : c.args.self.now ≡ words_of text = sym c.self.view_is ∙ ap words_left c.in_ok-text.was in
    let digit : is_digit (get_or text 0 0) ≡ true = search rules in
    let gap : get_or text 1 0 ≡ 32 = search rules in
    rw (take_rest, whole) (number_at-two text c.in-32.len_at_least digit gap)

pub returns-then-is_ascii_digit-2-clause-some : goal.returns-then-is_ascii_digit-2-clause-some
returns-then-is_ascii_digit-2-clause-some c =
    let text = c.in_ok-text.text.now in
    let whole : c.args.self.now ≡ words_of text = sym c.self.view_is ∙ ap words_left c.in_ok-text.was in
    let digit : is_digit (get_or text 0 0) ≡ true = search rules in
    rw whole (number_at-one text c.if-text-eq1.true digit)
