-- Texts that are copied part by part.
use Rattle.std.proofs.Common.{◌≡◌, ℕ, ◌+◌, ◌≤◌, List, ◌++◌, length, take, drop, sym, ap, ◌∙◌, arith}
use Rattle.std.proofs.Math.Seq.{take-add, take-append-add}
use Rattle.std.proofs.lemmas.List.{append_assoc, length-take-le, take-take}

-- where the first bytes of a text, this many, follow others, fewer of them do
pub fewer-after : (old mid text : List ℕ) (front at less : ℕ) → front ≤ length old → less ≤ at → take (front + at) mid ≡ take front old ++ take at text
    → take (front + less) mid ≡ take front old ++ take less text
fewer-after old mid text front at less within le e =
    let long = length-take-le front old within in
    sym (take-take (front + less) (front + at) mid (omega arith)) ∙ ap (take (front + less)) e ∙ ap (λ j. take (j + less) (take front old ++ take at text)) (sym long)
    ∙ take-append-add (take front old) (take at text) less ∙ ap (λ x. take front old ++ x) (take-take less at text le)

-- and then one part more, also over bytes of the text that are there already
pub part-after : (old mid new text : List ℕ) (front at less part more : ℕ) → front ≤ length old → less ≤ at → take (front + at) mid ≡ take front old ++ take at text
    → take (front + less + part) new ≡ take (front + less) mid ++ take part (drop less text) → more ≡ less + part → take (front + more) new ≡ take front old ++ take more text
part-after old mid new text front at less part more within le e stored is =
    let here : front + more ≡ front + less + part = omega arith in
    let there = fewer-after old mid text front at less within le e in
    ap (λ j. take j new) here ∙ stored ∙ ap (λ x. x ++ take part (drop less text)) there ∙ append_assoc (take front old) (take less text) _
    ∙ ap (λ x. take front old ++ x) (sym (take-add less part text) ∙ ap (λ j. take j text) (sym is))
