-- The text of a number, digit by digit.
use Rattle.std.proofs.Common.{◌≡◌, ℕ, zero, suc, ◌+◌, ◌-◌, ◌*◌, ◌/◌, ◌%◌, ◌<◌, ◌≤◌, [], ◌∷◌, take, drop, Bool, true, ◌&&◌, T, eqb, get_or, ◌++◌, append_assoc, ◌^◌, refl, eq-zero-or-pos, eqb→eq, inl, inr, arith, length, sym, ap, ◌∙◌}
use lib.Ieee.Fits.{and_l, and_r}
use Rattle.std.specs.Fmt.{decimal}
use Rattle.std.specs.Int.{w32, to_le_bytes}
use Rattle.itoa.proofs.Decimal.{decimal_four, decimal_two, decimal_pair}
use Rattle.std.proofs.lemmas.Fmt.{decimal_digit}
use Rattle.std.proofs.lemmas.List.{length-drop}
use Rattle.std.proofs.lemmas.Bool.{cases_lt}
use Rattle.mcs_trace.specs.declared.numbers.TheConstants.{PAIRS}
use Rattle.mcs_text.specs.Spelling.{four, eight}

-- the table has the two digits of each number below p
abbrev are_pairs : ℕ → Bool
are_pairs zero = true
are_pairs (suc p) = (eqb (get_or PAIRS (p * 2) 0) (48 + p / 10) && eqb (get_or PAIRS (p * 2 + 1) 0) (48 + p % 10)) && are_pairs p

below : (n p : ℕ) → T (are_pairs n) → p < n → (get_or PAIRS (p * 2) 0 ≡ 48 + p / 10) × (get_or PAIRS (p * 2 + 1) 0 ≡ 48 + p % 10)
below zero p t h = absurd (omega arith)
below (suc n) p t h =
    elim (eq-zero-or-pos (n - p)) [
      | inl z ↦ let e : p ≡ n = omega arith in let a = and_l _ (are_pairs n) t in rw e (eqb→eq _ _ (and_l _ _ a), eqb→eq _ _ (and_r _ _ a))
      | inr g ↦ below n p (and_r _ (are_pairs n) t) (omega arith)
    ]

-- both digits of a number below 100 are in the table
pub pair-at : (p : ℕ) → p < 100 → (get_or PAIRS (p * 2) 0 ≡ 48 + p / 10) × (get_or PAIRS (p * 2 + 1) 0 ≡ 48 + p % 10)
pair-at p h = below 100 p tt h

-- a number of nine digits or more: those of how often 100,000,000 is in it, and then eight
pub decimal_eight : (n : ℕ) → 100000000 ≤ n → n < 2 ^ 64 → decimal n ≡ decimal (n / 100000000) ++ eight (n % 100000000)
decimal_eight n lo hi =
    let a : n / 10000 / 10000 ≡ n / 100000000 = omega arith in
    let b : n % 100000000 / 10000 ≡ n / 10000 % 10000 = omega arith in
    let c : n % 100000000 % 10000 ≡ n % 10000 = omega arith in
    rw (decimal_four n (omega arith) hi, decimal_four (n / 10000) (omega arith) (omega arith), a, b, c, append_assoc) refl

-- four bytes of which those in front are shifted out
pub shifted : (a b c d count : ℕ) → a < 256 → b < 256 → c < 256 → d < 256 → 1 ≤ count → count ≤ 4 → (m : ℕ) → m ≡ a + b * 256 + c * 65536 + d * 16777216
    → take count (to_le_bytes w32 (m / 2 ^ (8 * (4 - count)))) ≡ drop (4 - count) (a ∷ b ∷ c ∷ d ∷ [])
shifted a b c d zero ha hb hc hd some few m is = absurd (omega arith)
shifted a b c d (suc zero) ha hb hc hd some few m is =
    let last : m / 2 ^ 24 % 256 ≡ d = omega (arith, is) in rw last refl
shifted a b c d (suc (suc zero)) ha hb hc hd some few m is =
    let third : m / 2 ^ 16 % 256 ≡ c = omega (arith, is) in let last : m / 2 ^ 16 / 256 % 256 ≡ d = omega (arith, is) in rw (third, last) refl
shifted a b c d (suc (suc (suc zero))) ha hb hc hd some few m is =
    let second : m / 2 ^ 8 % 256 ≡ b = omega (arith, is) in let third : m / 2 ^ 8 / 256 % 256 ≡ c = omega (arith, is) in
    let last : m / 2 ^ 8 / 65536 % 256 ≡ d = omega (arith, is) in rw (second, third, last) refl
shifted a b c d (suc (suc (suc (suc zero)))) ha hb hc hd some few m is =
    let first : m / 1 % 256 ≡ a = omega (arith, is) in let second : m / 1 / 256 % 256 ≡ b = omega (arith, is) in
    let third : m / 1 / 65536 % 256 ≡ c = omega (arith, is) in let last : m / 1 / 16777216 % 256 ≡ d = omega (arith, is) in
    rw (first, second, third, last) refl
shifted a b c d (suc (suc (suc (suc (suc n))))) ha hb hc hd some few m is = absurd (omega arith)

-- a number below 10,000 is the last of its four digits
pub decimal-last : (n count : ℕ) → n < 10000 → (n < 10 → count ≡ 1) → (10 ≤ n → n < 100 → count ≡ 2) → (100 ≤ n → n < 1000 → count ≡ 3) → (1000 ≤ n → count ≡ 4)
    → drop (4 - count) (four n) ≡ decimal n
decimal-last n count small one two three more =
    elim (cases_lt n 10) [
      | inl a ↦ let low : n % 100 % 10 ≡ n = omega arith in rw (one a, decimal_digit n a, low) refl
      | inr a ↦ elim (cases_lt n 100) [
        | inl b ↦ let low : n % 100 ≡ n = omega arith in rw (two a b, decimal_two n a b, low) refl
        | inr b ↦ elim (cases_lt n 1000) [
          | inl c ↦ let high : n / 100 % 10 ≡ n / 100 = omega arith in
              rw (three b c, decimal_pair n b (omega arith), decimal_digit (n / 100) (omega arith), high) refl
          | inr c ↦ rw (more c, decimal_pair n b (omega arith), decimal_two (n / 100) (omega arith) (omega arith)) refl
        ]
      ]
    ]

-- how many digits a number below 10,000 has
pub decimal-length : (n count : ℕ) → n < 10000 → (n < 10 → count ≡ 1) → (10 ≤ n → n < 100 → count ≡ 2) → (100 ≤ n → n < 1000 → count ≡ 3) → (1000 ≤ n → count ≡ 4)
    → count ≡ length (decimal n)
decimal-length n count small one two three more =
    let last = decimal-last n count small one two three more in
    let long : length (drop (4 - count) (four n)) ≡ 4 - (4 - count) = length-drop (4 - count) (four n) in
    let few : count ≤ 4 = elim (cases_lt n 10) [
      | inl a ↦ omega (arith, one a)
      | inr a ↦ elim (cases_lt n 100) [
        | inl b ↦ omega (arith, two a b)
        | inr b ↦ elim (cases_lt n 1000) [
          | inl c ↦ omega (arith, three b c)
          | inr c ↦ omega (arith, more c)
        ]
      ]
    ] in
    omega (arith, sym long ∙ ap length last)
