-- How faults show texts of a plan.
use Rattle.std.specs.Prelude.{ℕ, ◌+◌, ◌/◌, ◌%◌, ◌==◌, ◌&&◌, ◌++◌, ◌∷◌, Bool, false, List, [], cond, nat_le, nat_lt, codes}
use Rattle.std.specs.List.{flat_map, list_any}

-- whether a byte is shown as it is: one of ASCII that is printed
abbrev pub is_seen : ℕ → Bool
is_seen b = nat_le 32 b && nat_le b 126

-- a digit of base 16
abbrev pub digit_of : ℕ → ℕ
digit_of n = cond (nat_lt n 10) (48 + n) (87 + n)

-- a byte as it is shown: as it is, or `\x` and its two digits
abbrev pub shown_byte : ℕ → List ℕ
shown_byte b = cond (is_seen b) (b ∷ []) (codes "\\x" ++ digit_of (b / 16) ∷ digit_of (b % 16) ∷ [])

-- the bytes of a text so
abbrev pub shown_bytes : List ℕ → List ℕ
shown_bytes text = flat_map shown_byte text

-- whether a text has a byte; whether it begins with the byte order mark of UTF-8
abbrev pub has_byte : ℕ → List ℕ → Bool
has_byte wanted text = list_any (λ b. b == wanted) text

abbrev pub begins_with_mark : List ℕ → Bool
begins_with_mark (a ∷ b ∷ c ∷ text) = a == 239 && b == 187 && c == 191
begins_with_mark _ = false

-- a note, where it holds
abbrev pub note : Bool → List ℕ → List ℕ
note holds what = cond holds what []

-- the names of what is easily overlooked in a text
abbrev pub notes_of : List ℕ → List ℕ
notes_of text =
    note (begins_with_mark text) (codes " (byte order mark)") ++ note (has_byte 13 text) (codes " (carriage return)")
    ++ note (has_byte 9 text) (codes " (tab)")

-- a text as a fault shows it: in quotes, and then these names
abbrev pub shown : List ℕ → List ℕ
shown text = codes "\"" ++ shown_bytes text ++ codes "\"" ++ notes_of text
