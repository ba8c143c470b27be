-- The lines of a text.
use Rattle.std.proofs.Common.{◌≡◌, ℕ, ◌+◌, ◌≤◌, Bool, true, false, eqb, List, [], ◌∷◌, length, ap, refl, arith}
use Rattle.mcs_text.specs.Reading.{lines_of, onto_first}
use Rattle.mcs_sim.proofs.InputLaws.{lines-byte}

-- a text has no more lines than bytes
onto-few : (b : ℕ) (ls : List (List ℕ)) (n : ℕ) → length ls ≤ n → length (onto_first b ls) ≤ n + 1
onto-few b [] n few = omega arith
onto-few b (l ∷ ls) n few = omega (arith, few)

pub lines-few : (text : List ℕ) → length (lines_of text) ≤ length text
lines-few [] = omega arith
lines-few (b ∷ bs) = by (lines-few bs) (eqb b 10) refl
  where
    by : length (lines_of bs) ≤ length bs → (t : Bool) → eqb b 10 ≡ t → length (lines_of (b ∷ bs)) ≤ length (b ∷ bs)
    by more true is = let same = ap (λ (ls : List (List ℕ)). length ls) (lines-byte b bs true is) in omega (arith, more, same)
    by more false is = let onto = onto-few b (lines_of bs) (length bs) more in let same = ap (λ (ls : List (List ℕ)). length ls) (lines-byte b bs false is) in omega (arith, onto, same)
