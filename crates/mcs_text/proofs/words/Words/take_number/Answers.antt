use Rattle.std.proofs.Common.{◌≡◌, ◌<◌, sym, ap, ◌∙◌, arith}
use Rattle.mcs_text.specs.Reading.{words_left, words_of}
use Rattle.mcs_text.proofs.WordLaws.{first-number}
use Rattle.mcs_text.proofs.words.Words.take_number.Goals as goal

pub returns-clause-some : goal.returns-clause-some
returns-clause-some c =
    let text = c.in_ok-text.text.now in
    let whole : c.args.self.now ≡ words_of text = sym c.in_default.ensures.none ∙ sym c.self.view_is ∙ ap words_left c.in_ok-text.was in
    let small : c.first_number-n.result.0 < 18446744073709551616 = omega arith in
    rw (whole, c.go_behind.ensures) (first-number text c.first_number-n.result.1 c.first_number-n.result.0 (c.first_number-n.ensures c.if-count-eq0.false) small)
