-- The lines of names, one after the other.
use Rattle.std.specs.Prelude.{ℕ, suc, ◌≡◌, ◌+◌, ◌++◌, List}
use Rattle.std.proofs.Common.{ap, ◌∙◌, append_assoc, arith}
use Rattle.mcs_lab_check.specs.Naming.{Naming, given_at}
use Rattle.mcs_explore_script.specs.RunTexts.{given_text, names_below}

next-on : (n : ℕ) → suc n ≡ n + 1
next-on n = omega arith

-- one name more
pub names-next : (names : List Naming) (n : ℕ) (old mid new : List ℕ) → new ≡ mid ++ given_text (given_at names n) → mid ≡ old ++ names_below names n → new ≡ old ++ names_below names (n + 1)
names-next names n old mid new is before =
    is ∙ ap (λ (bs : List ℕ). bs ++ given_text (given_at names n)) before ∙ append_assoc old (names_below names n) (given_text (given_at names n)) ∙ ap (λ (k : ℕ). old ++ names_below names k) (next-on n)
