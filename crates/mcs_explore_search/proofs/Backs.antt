-- A path from its end to its start.
use Rattle.std.specs.Prelude.{◌≡◌, ◌<◌, ◌+◌, ◌-◌, ◌++◌, ℕ, suc, List, Option, Some, None, reverse}
use Rattle.std.proofs.Common.{refl, ap, sym, ◌∙◌, append_assoc, arith}
use Rattle.std.proofs.lemmas.List.{reverse-append}
use Rattle.mcs_explore_search.specs.Search.{Entries, path_back, parent_at, label_at, listed}

reverse-listed : {L : Type 0} (o : Option L) → reverse (listed o) ≡ listed o
reverse-listed None = refl
reverse-listed (Some l) = refl

-- one step back moves a label from the path that is left to the labels that were noted
pub one-back : {K L : Type 0} (E : Entries K L) (at end n : ℕ) (labels more : List L) (l : Option L) (parent : ℕ) (path : List L) → n < end → l ≡ label_at E at → parent ≡ parent_at E at → more ≡ labels ++ listed l
    → path_back E at (end - n) ++ reverse labels ≡ path → path_back E parent (end - (n + 1)) ++ reverse more ≡ path
one-back {L = L} E at end n labels more l parent path lt label up noted was =
    ap (λ (ls : List L). path_back E parent (end - (n + 1)) ++ ls) turned
    ∙ sym (append_assoc (path_back E parent (end - (n + 1))) (listed l) (reverse labels))
    ∙ ap (λ (p : List L). p ++ reverse labels) whole
    ∙ was
  where
    turned : reverse more ≡ listed l ++ reverse labels
    turned = ap reverse noted ∙ reverse-append labels (listed l) ∙ ap (λ (ls : List L). ls ++ reverse labels) (reverse-listed l)

    less : suc (end - (n + 1)) ≡ end - n
    less = omega (arith, lt)

    whole : path_back E parent (end - (n + 1)) ++ listed l ≡ path_back E at (end - n)
    whole = ap (λ (p : ℕ). path_back E p (end - (n + 1)) ++ listed l) up ∙ ap (λ (o : Option L). path_back E (parent_at E at) (end - (n + 1)) ++ listed o) label ∙ ap (λ (m : ℕ). path_back E at m) less
