-- The parts of words.
use Rattle.std.proofs.Common.{◌≡◌, ◌<◌, ◌+◌, ◌^◌, ◌==◌, ℕ, Bool, true, false, cond, nat_lt, List, ◌∷◌, length, drop, get_or, Some, None, bit_or, option_and_then, sym, ap, ◌∙◌, arith, suc, drop-cons, take}
use Rattle.std.proofs.lemmas.Nat.{or_lt}
use Rattle.std.proofs.lemmas.List.{take_all}
use Rattle.std.specs.List.{after_first, position_or_len}
use Rattle.mcs_plan_source.specs.Capabilities.{bit_of, with_letter, bits_after, front_of, rest_of}

bit_small : (c : ℕ) → bit_of c < 2 ^ 4
bit_small c = go (c == 119) (c == 114) (c == 103) (c == 112)
  where
    go : (w r g p : Bool) → cond w 1 (cond r 2 (cond g 4 (cond p 8 0))) < 2 ^ 4
    go true r g p = omega arith
    go false true g p = omega arith
    go false false true p = omega arith
    go false false false true = omega arith
    go false false false false = omega arith

-- four bits stay four
pub few_bits : (bits c : ℕ) → bits < 16 → bit_or bits (bit_of c) < 16
few_bits bits c few = or_lt 4 bits (bit_of c) few (bit_small c)

-- a letter more
pub next_letter : (letters : List ℕ) (bits more i c : ℕ) → i < length letters → get_or letters i 0 ≡ c → with_letter bits c ≡ Some more
    → bits_after more (drop (i + 1) letters) ≡ bits_after bits (drop i letters)
next_letter letters bits more i c within at e =
    let one : suc i ≡ i + 1 = omega arith in
    let split : drop i letters ≡ c ∷ drop (i + 1) letters =
    drop-cons letters i 0 within ∙ ap (λ x. x ∷ drop (suc i) letters) at ∙ ap (λ k. c ∷ drop k letters) one in
    sym (ap (bits_after bits) split ∙ ap (λ o. option_and_then (λ m. bits_after m (drop (i + 1) letters)) o) e)

-- a text with the mark, and one without
pub no_rest : (mark : ℕ) (text : List ℕ) → position_or_len (λ b. b == mark) text ≡ length text → (front_of mark text ≡ text) × (rest_of mark text ≡ None)
no_rest mark text none =
    let same : nat_lt (position_or_len (λ b. b == mark) text) (length text) ≡ false = grind (arith, none) in
    (ap (λ k. take k text) none ∙ take_all (length text) text (omega arith), ap (λ b. cond b (Some (after_first (λ b. b == mark) text)) None) same)

pub one_rest : (mark : ℕ) (text : List ℕ) → position_or_len (λ b. b == mark) text < length text → rest_of mark text ≡ Some (after_first (λ b. b == mark) text)
one_rest mark text some =
    let less : nat_lt (position_or_len (λ b. b == mark) text) (length text) ≡ true = grind (arith, some) in
    ap (λ b. cond b (Some (after_first (λ b. b == mark) text)) None) less
