-- The texts that a pattern matches (own).
use Rattle.std.specs.Prelude.{ℕ, ◌||◌, ◌&&◌, Bool, true, false, List, [], ◌∷◌, codes, bytes_eq}
use Rattle.mcs_text.specs.Reading.{words_of}

-- whether a word of a pattern matches all the remaining words
abbrev pub is_rest : List ℕ → Bool
is_rest wanted = bytes_eq wanted (codes "**")

-- whether it matches a word
abbrev pub is_word : List ℕ → List ℕ → Bool
is_word wanted word = bytes_eq wanted (codes "*") || bytes_eq wanted word

-- whether the words of a pattern match these
abbrev pub are_matched : List (List ℕ) → List (List ℕ) → Bool
are_matched [] [] = true
are_matched [] (v ∷ vs) = false
are_matched (w ∷ ws) [] = is_rest w
are_matched (w ∷ ws) (v ∷ vs) = is_rest w || (is_word w v && are_matched ws vs)

-- whether a pattern matches a text
abbrev pub is_match : List ℕ → List ℕ → Bool
is_match pattern text = are_matched (words_of pattern) (words_of text)
