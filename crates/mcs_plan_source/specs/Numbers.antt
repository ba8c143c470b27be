-- The numbers that words spell.
use Rattle.std.specs.Prelude.{◌≡◌, ◌^◌, ◌==◌, ◌&&◌, ℕ, Bool, false, cond, nat_lt, nat_le, List, [], ◌∷◌, drop, Option, Some, None, option_and_then, string_bytes}
use Rattle.std.specs.List.{list_all}
use Rattle.std.specs.Char.{is_digit}
use Rattle.std.specs.Str.Parse.{digits_value}
use Rattle.mcs_plan_source.specs.declared.fault.PlanError.{PlanError}
use Rattle.mcs_plan_source.specs.declared.fault.PlanError.TheVariants as why
use Rattle.mcs_plan_source.specs.Naming.{begins_with_digit}

-- one digit of a base or more, and nothing else
abbrev pub are_digits : ℕ → List ℕ → Bool
are_digits radix [] = false
are_digits radix (c ∷ cs) = list_all (λ d. is_digit d radix) (c ∷ cs)

-- the number that digits of a base spell, of 64 bits at most
abbrev pub number_in : ℕ → List ℕ → Option ℕ
number_in radix digits =
    cond (are_digits radix digits && nat_lt (digits_value radix digits) (2 ^ 64)) (Some (digits_value radix digits)) None

-- whether a word begins with `0x`
abbrev pub is_hexadecimal : List ℕ → Bool
is_hexadecimal [] = false
is_hexadecimal (a ∷ []) = false
is_hexadecimal (a ∷ b ∷ bs) = a == 48 && b == 120

-- the number that a word spells: decimal, or hexadecimal after `0x`
abbrev pub number_of : List ℕ → Option ℕ
number_of word =
    cond (begins_with_digit word) (cond (is_hexadecimal word) (number_in 16 (drop 2 word)) (number_in 10 word)) None

-- the same where it is not above a limit
abbrev pub number_within : ℕ → List ℕ → Option ℕ
number_within limit word = option_and_then (λ n. cond (nat_le n limit) (Some n) None) (number_of word)

-- the first word spells this number within the limit, and the others are left
abbrev pub ReadsNumber : ℕ → List (List ℕ) → ℕ → List (List ℕ) → Type 0
ReadsNumber limit [] n left = ⊥
ReadsNumber limit (word ∷ words) n left = (left ≡ words) × (number_within limit word ≡ Some n)

-- why no number is read: no word is there, or the first, which is reported, spells none within the
-- limit
abbrev pub TellsNoNumber : ℕ → List (List ℕ) → PlanError → Type 0
TellsNoNumber limit [] (why.Missing wanted) = Unit {0}
TellsNoNumber limit (word ∷ words) (why.Not found wanted) = (string_bytes found ≡ word) × (number_within limit word ≡ None)
TellsNoNumber limit (word ∷ words) why.OutOfMemory = Unit {0}
TellsNoNumber limit words _ = ⊥
