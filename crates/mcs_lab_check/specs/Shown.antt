-- How messages show bytes of the input.
use Rattle.std.specs.Prelude.{ℕ, ◌+◌, ◌/◌, ◌%◌, Bool, cond, List, [], ◌∷◌, nat_lt, ◌&&◌}
use Rattle.std.specs.List.{flat_map}

-- the hexadecimal digit of a number below 16, in lower case
abbrev pub hex_digit : ℕ → ℕ
hex_digit n = cond (nat_lt n 10) (48 + n) (87 + n)

-- a byte is printable ASCII
abbrev pub is_printable : ℕ → Bool
is_printable b = nat_lt 31 b && nat_lt b 127

-- a byte: itself where it is printable ASCII, else `\x` and two digits
abbrev pub shown_byte : ℕ → List ℕ
shown_byte b = cond (is_printable b) (b ∷ []) (92 ∷ 120 ∷ hex_digit (b / 16) ∷ hex_digit (b % 16) ∷ [])

-- bytes
abbrev pub shown : List ℕ → List ℕ
shown bytes = flat_map shown_byte bytes
