use Rattle.std.proofs.Common.{◌≡◌, ℕ, ◌∷◌, [], List, length, get_or, rules, arith, ap, sym, ◌∙◌}
use Rattle.mcs_text.specs.Reading.{words_of}
use Rattle.mcs_text.proofs.WordLaws.{nine}
use Rattle.mcs_text.proofs.key.common_key.Goals as goal

pub returns-in-114-2-clause-word : goal.returns-in-114-2-clause-word
returns-in-114-2-clause-word c =
    let w = c.args.word.now in
    let long : length w ≡ 9 = omega arith in
    let whole = nine w long in
    let w0 : get_or w 0 0 ≡ 114 = search rules in
    let w1 : get_or w 1 0 ≡ 101 = search rules in
    let w2 : get_or w 2 0 ≡ 112 = search rules in
    let w3 : get_or w 3 0 ≡ 108 = search rules in
    let w4 : get_or w 4 0 ≡ 121 = search rules in
    let w5 : get_or w 5 0 ≡ 114 = search rules in
    let w6 : get_or w 6 0 ≡ 101 = search rules in
    let w7 : get_or w 7 0 ≡ 99 = search rules in
    let w8 : get_or w 8 0 ≡ 118 = search rules in
    let text : w ≡ 114 ∷ 101 ∷ 112 ∷ 108 ∷ 121 ∷ 114 ∷ 101 ∷ 99 ∷ 118 ∷ [] = whole ∙ cc in
    ap words_of text ∙ ap (λ (t : List ℕ). t ∷ []) (sym text)
