-- A boot that is made again line by line.
use Rattle.std.proofs.Common.{◌≡◌, ℕ, List, reverse, ap, sym, ◌∙◌}
use Rattle.std.proofs.lemmas.List.{reverse-reverse}
use Rattle.mcs_types.specs.declared.boot.BootLine.{BootLine}
use Rattle.mcs_book.specs.Boots.{Boot}

-- boots with the same cores and the same lines are the same
pub same-boots : (one other : Boot) → one.cores ≡ other.cores → one.lines ≡ other.lines → one ≡ other
same-boots one other cores lines =
    let left : Boot = record { cores = one.cores; lines = one.lines } in
    let middle : Boot = record { cores = other.cores; lines = one.lines } in
    let first : left ≡ middle = ap (λ (n : ℕ). record { cores = n; lines = one.lines }) cores in
    let second : middle ≡ other = ap (λ (ls : List BootLine). record { cores = other.cores; lines = ls }) lines in
    first ∙ second

-- a boot whose lines were made again in order is the same
pub made-again : (one other : Boot) (items : List BootLine) → one.cores ≡ other.cores → one.lines ≡ reverse items → items ≡ reverse other.lines → one ≡ other
made-again one other items cores made were = same-boots one other cores (made ∙ ap (λ (xs : List BootLine). reverse xs) were ∙ reverse-reverse other.lines)
