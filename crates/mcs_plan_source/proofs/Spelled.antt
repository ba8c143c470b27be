-- Which numbers words spell.
use Rattle.std.proofs.Common.{◌≡◌, ◌^◌, ◌<◌, ◌≤◌, ◌==◌, ◌&&◌, ℕ, Bool, true, false, cond, nat_lt, nat_le, List, [], ◌∷◌, drop, slice_index, Option, Some, None, Result, Ok, Err, option_and_then, refl, sym, ap, ◌∙◌, subst, arith}
use Rattle.std.specs.List.{list_all}
use Rattle.std.specs.Result.{OkIff, result_ok}
use Rattle.std.specs.Char.{is_digit, digit_value}
use Rattle.std.specs.Str.Parse.{AllDigits, IsNumeral, digits_value, without_leading_plus, ParsesUnsigned}
use Rattle.std.specs.Str.Pattern.{FindsTextPrefix, StripsPrefix}
use Rattle.mcs_plan_source.specs.Numbers.{are_digits, number_in, is_hexadecimal, number_of, number_within, ReadsNumber}

both : (a b : Bool) → a && b ≡ true → (a ≡ true) × (b ≡ true)
both true b h = (refl, h)
both false b h = absurd (cc)

joined : (a b : Bool) → a ≡ true → b ≡ true → a && b ≡ true
joined true b p q = q
joined false b p q = p

-- digits as a test
digits_yes : (radix : ℕ) (ds : List ℕ) → AllDigits radix ds → list_all (λ d. is_digit d radix) ds ≡ true
digits_yes radix [] h = refl
digits_yes radix (c ∷ cs) h =
    let first : nat_lt (digit_value c) radix ≡ true = below (digit_value c) radix h.0 in
    joined _ _ first (digits_yes radix cs h.1)
  where
    below : (m n : ℕ) → m < n → nat_lt m n ≡ true
    below m n less = grind (arith, less)

digits_no : (radix : ℕ) (ds : List ℕ) → list_all (λ d. is_digit d radix) ds ≡ true → AllDigits radix ds
digits_no radix [] h = tt
digits_no radix (c ∷ cs) h = let parts = both (is_digit c radix) (list_all (λ d. is_digit d radix) cs) h in (below (digit_value c) radix parts.0, digits_no radix cs parts.1)
  where
    below : (m n : ℕ) → nat_lt m n ≡ true → m < n
    below m n less = grind (arith, less)

numeral_yes : (radix : ℕ) (ds : List ℕ) → IsNumeral radix ds → are_digits radix ds ≡ true
numeral_yes radix [] h = absurd (omega (arith, h.0))
numeral_yes radix (c ∷ cs) h = digits_yes radix (c ∷ cs) h.1

numeral_no : (radix : ℕ) (ds : List ℕ) → are_digits radix ds ≡ true → IsNumeral radix ds
numeral_no radix [] h = absurd (cc)
numeral_no radix (c ∷ cs) h = (omega arith, digits_no radix (c ∷ cs) h)

-- a result that is there just where a test holds
tells : {E : Type 0} (r : Result ℕ E) (P : Type 0) (v : ℕ) (b : Bool) → (P → b ≡ true) → (b ≡ true → P) → OkIff r P v → result_ok r ≡ cond b (Some v) None
tells (Ok x) P v true there back h = ap Some h.1
tells (Ok x) P v false there back h = let it : false ≡ true = there h.0 in absurd (cc)
tells (Err e) P v true there back h = absurd (h (back refl))
tells (Err e) P v false there back h = refl

-- what the library reads is what the word spells
pub parsed : {E : Type 0} (radix : ℕ) (ds : List ℕ) (r : Result ℕ E) → (slice_index ds 0 == 43) ≡ false → ParsesUnsigned 64 radix ds r → result_ok r ≡ number_in radix ds
parsed radix ds r plain h =
    let whole : without_leading_plus ds ≡ ds = ap (λ b. drop (cond b 1 0) ds) plain in
    tells r _ _ _
    (λ (p : IsNumeral radix ds × (digits_value radix ds < 2 ^ 64)). joined _ _ (numeral_yes radix ds p.0) (less (digits_value radix ds) p.1))
    (λ b. let parts = both (are_digits radix ds) (nat_lt (digits_value radix ds) (2 ^ 64)) b in (numeral_no radix ds parts.0, below (digits_value radix ds) parts.1))
    (subst (λ t. OkIff r (IsNumeral radix t × (digits_value radix t < 2 ^ 64)) (digits_value radix t)) whole h)
  where
    less : (m : ℕ) → m < 2 ^ 64 → nat_lt m (2 ^ 64) ≡ true
    less m l = grind (arith, l)

    below : (m : ℕ) → nat_lt m (2 ^ 64) ≡ true → m < 2 ^ 64
    below m l = grind (arith, l)

none_of : (a b c : Bool) (v : ℕ) → a ≡ false → cond ((a && b) && c) (Some v) None ≡ None
none_of true b c v h = absurd (cc)
none_of false b c v h = refl

-- a plus is no digit
pub signed : (radix : ℕ) (ds : List ℕ) → radix ≤ 36 → (slice_index ds 0 == 43) ≡ true → number_in radix ds ≡ None
signed radix [] few plus = refl
signed radix (c ∷ cs) few plus =
    let code : c ≡ 43 = grind (arith, plus) in
    let none : nat_lt 36 radix ≡ false = grind (arith, few) in
    subst (λ d. number_in radix (d ∷ cs) ≡ None) (sym code) (none_of (is_digit 43 radix) (list_all (λ d. is_digit d radix) cs) _ _ none)

pub hexadecimal : (word digits : List ℕ) → StripsPrefix (FindsTextPrefix (48 ∷ 120 ∷ [])) word digits → (is_hexadecimal word ≡ true) × (digits ≡ drop 2 word)
hexadecimal word digits h = (ap is_hexadecimal h.1.1, h.2 ∙ ap (λ k. drop k word) h.1.0)

pub not_hexadecimal : (word : List ℕ) → FindsTextPrefix (48 ∷ 120 ∷ []) word None → is_hexadecimal word ≡ false
not_hexadecimal [] h = refl
not_hexadecimal (a ∷ []) h = refl
not_hexadecimal (a ∷ b ∷ bs) h = go (a == 48) (b == 120) refl refl
  where
    go : (p q : Bool) → (a == 48) ≡ p → (b == 120) ≡ q → p && q ≡ false
    go true true e f =
        let first : a ≡ 48 = grind (arith, e) in
        let second : b ≡ 120 = grind (arith, f) in
        absurd (h bs (ap (λ x. x ∷ b ∷ bs) first ∙ ap (λ y. 48 ∷ y ∷ bs) second))
    go true false e f = refl
    go false q e f = refl

-- what is not above a limit
abbrev within : ℕ → Option ℕ → Option ℕ
within limit o = option_and_then (λ n. cond (nat_le n limit) (Some n) None) o

pub reads_number : (limit n : ℕ) (old new : List (List ℕ)) (word : List ℕ) → old ≡ word ∷ new → number_of word ≡ Some n → n ≤ limit → ReadsNumber limit old n new
reads_number limit n old new word e spelled small =
    let fits : nat_le n limit ≡ true = grind (arith, small) in
    subst (λ ws. ReadsNumber limit ws n new) (sym e) (refl, ap (within limit) spelled ∙ ap (λ b. cond b (Some n) None) fits)

pub too_large : (limit n : ℕ) (word : List ℕ) → number_of word ≡ Some n → limit < n → number_within limit word ≡ None
too_large limit n word spelled above =
    let out : nat_le n limit ≡ false = grind (arith, above) in
    ap (within limit) spelled ∙ ap (λ b. cond b (Some n) None) out

pub no_number : (limit : ℕ) (word : List ℕ) → number_of word ≡ None → number_within limit word ≡ None
no_number limit word none = ap (within limit) none
