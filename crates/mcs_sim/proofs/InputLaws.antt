-- How long lines are that are read, and the bytes of a text by its lines.
use Rattle.std.proofs.Common.{◌≡◌, ℕ, ◌+◌, ◌≤◌, Bool, true, false, if◌then◌else◌, ltb, eqb, Ok, Err, List, [], ◌∷◌, length, refl, ap, arith}
use Rattle.std.proofs.lemmas.Bool.{ltb-false}
use Rattle.mcs_text.specs.declared.fault.LineFault.TheVariants.{LongLine, ManyLines}
use Rattle.mcs_text.specs.Reading.{onto_first, lines_of}
use Rattle.mcs_phases.specs.Script.{Grammar, Script, read_line}

pub lines-byte : (b : ℕ) (bs : List ℕ) (t : Bool) → eqb b 10 ≡ t → lines_of (b ∷ bs) ≡ (if t then [] ∷ lines_of bs else onto_first b (lines_of bs))
lines-byte b bs t e = ap (λ (t : Bool). if t then [] ∷ lines_of bs else onto_first b (lines_of bs)) e

-- the bytes of lines with a newline each
unfoldable pub total : List (List ℕ) → ℕ
total [] = 0
total (l ∷ ls) = length l + 1 + total ls

total-onto_first : (b : ℕ) (ls : List (List ℕ)) → 1 + total ls ≤ total (onto_first b ls)
unfolding total
total-onto_first b [] = omega arith
total-onto_first b (l ∷ ls) = omega arith

pub length-total : (bs : List ℕ) → length bs ≤ total (lines_of bs)
unfolding total
length-total [] = omega arith
length-total (b ∷ bs) = go (length-total bs) (eqb b 10) refl
  where
    go : length bs ≤ total (lines_of bs) → (t : Bool) → eqb b 10 ≡ t → length (b ∷ bs) ≤ total (lines_of (b ∷ bs))
    go le true e = rw e (omega (arith, le))
    go le false e = rw e (omega (arith, le, total-onto_first b (lines_of bs)))

-- a line without fault is not beyond the last, and not too long
pub within : {T : Type 0} (grammar : Grammar T) (s t : Script T) (n : ℕ) (line : List ℕ) → read_line grammar s n line ≡ Ok t → (n ≤ 2000000) × (length line ≤ 4096)
unfolding read_line
within {T = T} grammar s t n line ok = go (ltb 2000000 n) refl
  where
    short : ltb 2000000 n ≡ false → (b : Bool) → ltb 4096 (length line) ≡ b → length line ≤ 4096
    short few true e = absurd (let bad : read_line grammar s n line ≡ Err LongLine = rw (few, e) refl in cc)
    short few false e = ltb-false _ _ e

    go : (b : Bool) → ltb 2000000 n ≡ b → (n ≤ 2000000) × (length line ≤ 4096)
    go true e = absurd (let bad : read_line grammar s n line ≡ Err ManyLines = rw e refl in cc)
    go false e = (ltb-false _ _ e, short e (ltb 4096 (length line)) refl)
