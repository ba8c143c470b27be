use Rattle.std.proofs.Common.{◌≡◌, ◌≤◌, ◌<◌, ◌-◌, length, take, drop, get_or, rules, sym, ap, ◌∙◌, arith}
use Rattle.std.proofs.lemmas.Bool.{ne_eqb}
use Rattle.std.proofs.lemmas.List.{take_rest}
use Rattle.mcs_text.specs.Reading.{words_left, words_of}
use Rattle.mcs_text.proofs.WordLaws.{first-name}
use Rattle.mcs_text.proofs.words.Words.take_long_name.Goals as goal

pub returns-clause-some : goal.returns-clause-some
returns-clause-some c =
    let text = c.in_ok-text.text.now in
    let whole : c.args.self.now ≡ words_of text = sym c.self.view_is ∙ ap words_left c.in_ok-text.was in
    let found = c.first_number-n.ensures c.if-count-eq0.false in
    let some : 1 ≤ length text = omega arith in
    let first : get_or text 0 0 ≡ c.args.letter = search rules in
    let small : c.first_number-n.result.0 < 18446744073709551616 = omega arith in
    rw (whole, c.go_behind.ensures) (first-name c.args.letter c.first_number-n.result.1 c.first_number-n.result.0 text (take (length text - 1) (drop 1 text)) (take_rest text 1) some (ne_eqb _ _ c.if-letter-eq32.false) first found small)
