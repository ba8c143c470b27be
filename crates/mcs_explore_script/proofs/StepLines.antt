-- The steps of one line more.
use Rattle.std.proofs.Common.{◌≡◌, ℕ, ◌+◌, ◌-◌, List, [], ◌∷◌, ◌++◌, take, drop, sym, ap, ◌∙◌, append-nil, arith}
use Rattle.std.specs.List.{flat_map}
use Rattle.std.proofs.lemmas.List.Concat.{flat_map-cons}
use Rattle.std.proofs.lemmas.Grind.{flat_map-append}
use Rattle.mcs_book.specs.History.{Line}
use Rattle.mcs_explore_script.specs.Steps.{step_lines}

pub step-next : (lines : List Line) (i : ℕ) (l : Line) → take (i + 1 - 1 - 0) (drop 0 lines) ≡ take (i - 1 - 0) (drop 0 lines) ++ l ∷ []
    → flat_map step_lines (take (i - 1) lines) ++ step_lines l ≡ flat_map step_lines (take (i + 1 - 1) lines)
step-next lines i l more =
    let new : i + 1 - 1 - 0 ≡ i + 1 - 1 = omega arith in
    let old : i - 1 - 0 ≡ i - 1 = omega arith in
    let next : take (i + 1 - 1) lines ≡ take (i - 1) lines ++ l ∷ [] = sym (ap (λ (n : ℕ). take n lines) new) ∙ (more ∙ ap (λ (n : ℕ). take n lines ++ l ∷ []) old) in
    sym (ap (flat_map step_lines) next ∙ flat_map-append step_lines (take (i - 1) lines) (l ∷ [])
    ∙ ap (λ (t : List ℕ). flat_map step_lines (take (i - 1) lines) ++ t) (flat_map-cons step_lines l [] ∙ append-nil (step_lines l)))
