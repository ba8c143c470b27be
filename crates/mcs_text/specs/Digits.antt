-- Numbers that are read digit by digit.
use Rattle.std.specs.Prelude.{◌≡◌, ◌≢◌, ◌+◌, ◌<◌, ◌≤◌, ◌==◌, ℕ, List, [], length, take, drop, slice_index, Option, Some, None, Result, Ok, Err, nat_lt, true, if◌then◌else◌}
use Rattle.std.specs.Int.{w64, trailing_zeros}
use Rattle.mcs_text.specs.Reading.{words_of, all_digits, value}
use Rattle.mcs_text.specs.declared.fault.LineFault.{LineFault}
use Rattle.mcs_text.specs.declared.fault.LineFault.TheVariants.{Form}
use Rattle.mcs_text.specs.declared.words.Spelled.{Spelled}
use Rattle.mcs_text.specs.declared.words.Spelled.TheVariants as s

-- the place of the lowest bit that is set, or 16
abbrev pub first_set : ℕ → ℕ
first_set mask = if mask == 0 then 16 else trailing_zeros w64 mask

-- a text begins with this many digits, and they write this number
pub record Begins (text : List ℕ) (count n : ℕ) : Type 0 where
  pub within : count ≤ length text
  pub digits : all_digits (take count text) ≡ true
  pub writes : value (take count text) ≡ n

-- the first word of a text is a number of this many digits, of which the first is not 0
pub record IsFirst (text : List ℕ) (count n : ℕ) : Type 0 where
  pub begins : Begins text count n
  pub some : count ≢ 0
  pub unpadded : slice_index text 0 ≢ 48
  pub end : count < length text → slice_index text count ≡ 32

-- the words after a first word of this many bytes
abbrev pub words_behind : ℕ → List ℕ → List (List ℕ)
words_behind count text = if nat_lt count (length text) then words_of (drop (count + 1) text) else []

-- what is read of a word that may be a number
abbrev pub spelled : Spelled → Result (Option ℕ) LineFault
spelled (s.Number n) = Ok (Some n)
spelled s.Large = Ok None
spelled s.Other = Err Form
