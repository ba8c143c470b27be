-- The line of a step begins with a digit, as no line of the boot does.
use Rattle.std.proofs.Common.{◌≡◌, ℕ, ◌<◌, ◌≤◌, true, false, None, List, [], ◌∷◌, length, get_or, refl, arith, eqb, leb}
use Rattle.std.proofs.lemmas.Bool.{ne_eqb, leb-true}
use Rattle.std.specs.Prelude.{Bool, if◌then◌else◌}
use Rattle.mcs_text.specs.Keys.{boot_key}
use Rattle.mcs_text.specs.FirstKeys.{first_key}
use Rattle.mcs_text.specs.Reading.{words_of, onto_first}

pub digit-no-boot : (b : ℕ) (bs : List ℕ) → b < 58 → boot_key (b ∷ bs) ≡ None
unfolding boot_key
digit-no-boot b bs lt =
    let c : eqb 99 b ≡ false = ne_eqb _ _ (λ e. omega arith) in
    let e : eqb 101 b ≡ false = ne_eqb _ _ (λ e. omega arith) in
    let n : eqb 110 b ≡ false = ne_eqb _ _ (λ e. omega arith) in
    let r : eqb 114 b ≡ false = ne_eqb _ _ (λ e. omega arith) in
    let s : eqb 115 b ≡ false = ne_eqb _ _ (λ e. omega arith) in
    let t : eqb 116 b ≡ false = ne_eqb _ _ (λ e. omega arith) in
    rw (c, e, n, r, s, t) refl

pub first-digit-no-boot : (w : List ℕ) → 1 ≤ length w → leb (get_or w 0 0) 57 ≡ true → boot_key w ≡ None
first-digit-no-boot [] some e = absurd (omega arith)
first-digit-no-boot (b ∷ bs) some e = digit-no-boot b bs (omega (arith, leb-true b 57 e))

empty-no-boot : boot_key [] ≡ None
unfolding boot_key
empty-no-boot = refl

pub line-no-boot : (s : List ℕ) → 1 ≤ length s → leb (get_or s 0 0) 57 ≡ true → first_key (words_of s) ≡ None
line-no-boot [] some e = absurd (omega arith)
line-no-boot (b ∷ bs) some e = go (eqb b 32) (words_of bs)
  where
    go : (x : Bool) (ws : List (List ℕ)) → first_key (if x then [] ∷ ws else onto_first b ws) ≡ None
    go true ws = empty-no-boot
    go false [] = digit-no-boot b [] (omega (arith, leb-true b 57 e))
    go false (w ∷ ws) = digit-no-boot b w (omega (arith, leb-true b 57 e))
