-- The numbers that words write.
use Rattle.std.specs.Prelude.{ℕ, cond, List, Option, None}
use Rattle.mcs_text.specs.Reading.{is_number, small, value}

-- the number of 64 bits that a word writes
abbrev pub number_of : List ℕ → Option ℕ
number_of word = cond (is_number word) (small (value word)) None
