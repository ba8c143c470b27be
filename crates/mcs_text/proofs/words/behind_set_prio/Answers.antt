use Rattle.std.proofs.Common.{◌≡◌, ℕ, ◌≤◌, ◌-◌, ◌∷◌, List, length, get_or, take, drop, rules, arith, ap, ◌∙◌}
use Rattle.std.proofs.lemmas.List.{length-drop, take_all}
use Rattle.mcs_text.specs.Keys.{entry_key}
use Rattle.mcs_text.specs.Reading.{entry_at, words_of}
use Rattle.mcs_text.proofs.WordLaws.{eight_and}
use Rattle.mcs_text.proofs.words.behind_set_prio.Goals as goal

pub returns-in-115 : goal.returns-in-115
unfolding entry_at entry_key
returns-in-115 c =
    let w = c.args.text.now in
    let long : 8 ≤ length w = omega (arith, c.in-115.len_at_least) in
    let whole = eight_and w long in
    let w0 : get_or w 0 0 ≡ 115 = search rules in
    let w1 : get_or w 1 0 ≡ 101 = search rules in
    let w2 : get_or w 2 0 ≡ 116 = search rules in
    let w3 : get_or w 3 0 ≡ 112 = search rules in
    let w4 : get_or w 4 0 ≡ 114 = search rules in
    let w5 : get_or w 5 0 ≡ 105 = search rules in
    let w6 : get_or w 6 0 ≡ 111 = search rules in
    let w7 : get_or w 7 0 ≡ 32 = search rules in
    let text : w ≡ 115 ∷ 101 ∷ 116 ∷ 112 ∷ 114 ∷ 105 ∷ 111 ∷ 32 ∷ drop 8 w = whole ∙ cc in
    let rest : take (length w - 8) (drop 8 w) ≡ drop 8 w = take_all (length w - 8) (drop 8 w) (omega (arith, length-drop 8 w)) in
    rw rest (ap (λ (t : List ℕ). entry_at (words_of t)) text)
