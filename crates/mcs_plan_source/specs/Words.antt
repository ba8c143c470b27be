-- The words of a line, which are taken one after another.
use Rattle.std.specs.Prelude.{ℕ, List, [], ◌∷◌, Ok, Err, codes, bytes_eq, option_map, if◌then◌else◌}
use Rattle.std.specs.Option.{ok_or}
use Rattle.mcs_plan_source.specs.Numbers.{number_within}
use Rattle.mcs_plan_source.specs.Refusals.{Read, missing, too_many, not_wanted}

-- a word, and those after it
abbrev pub word_then : List (List ℕ) → Read (List ℕ × List (List ℕ))
word_then [] = Err missing
word_then (word ∷ words) = Ok (word, words)

-- the words after one that is wanted
abbrev pub after_word : List ℕ → List (List ℕ) → Read (List (List ℕ))
after_word wanted [] = Err missing
after_word wanted (word ∷ words) = if bytes_eq word wanted then Ok words else Err (not_wanted word)

-- no word is left
abbrev pub end_of : List (List ℕ) → Read (Unit {0})
end_of [] = Ok tt
end_of (word ∷ words) = Err (too_many word)

-- a number that is not above a limit, and the words after it
abbrev pub number_then : ℕ → List (List ℕ) → Read (ℕ × List (List ℕ))
number_then most [] = Err missing
number_then most (word ∷ words) = ok_or (option_map (λ n. (n, words)) (number_within most word)) (not_wanted word)

-- the word that is reported where a number is 0 and may not be
abbrev pub zero_word : List ℕ
zero_word = codes "0"
