-- When a text is too long.
use Rattle.std.specs.Prelude.{◌≡◌, ℕ, ◌⊎◌, List, [], ◌∷◌, ◌++◌, length}
use Rattle.mcs_text.specs.Reading.{lines_of}

-- a text that ends with the first byte of the line after the last that there may be
pub record BeginsNext (text : List ℕ) : Type 0 where
  pub before : List ℕ
  pub first : ℕ
  pub split : text ≡ before ++ first ∷ []
  pub full : length (lines_of before) ≡ 2000000
  pub next : length (lines_of text) ≡ 2000001

-- a text of one byte more than all lines may have, or of all lines that there may be and the first
-- byte of the next
abbrev pub IsTooLong : List ℕ → Type 0
IsTooLong text = (length text ≡ 8194000001) ⊎ BeginsNext text
