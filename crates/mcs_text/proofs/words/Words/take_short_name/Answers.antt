use Rattle.std.proofs.Common.{◌≡◌, ◌≤◌, get_or, rules, sym, ap, ◌∙◌, arith}
use Rattle.std.proofs.lemmas.Bool.{ne_eqb}
use Rattle.std.proofs.lemmas.List.{take_rest}
use Rattle.mcs_text.specs.Reading.{words_left, words_of}
use Rattle.mcs_text.proofs.WordLaws.{name_at-three}
use Rattle.mcs_text.proofs.words.Words.take_short_name.Goals as goal

pub returns-clause-some : goal.returns-clause-some
returns-clause-some c =
    let text = c.in_ok-text.text.now in
    let whole : c.args.self.now ≡ words_of text = sym c.self.view_is ∙ ap words_left c.in_ok-text.was in
    let first : get_or text 0 0 ≡ c.args.letter = search rules in
    let low : 49 ≤ get_or text 1 0 = omega arith in
    let high : get_or text 1 0 ≤ 57 = omega arith in
    let gap : get_or text 2 0 ≡ 32 = search rules in
    rw (take_rest, whole) (name_at-three c.args.letter text c.in-32.len_at_least (ne_eqb _ _ c.if-letter-eq32.false) first low high gap)
