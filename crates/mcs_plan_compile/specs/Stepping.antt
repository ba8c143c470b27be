-- Which lines of a plan are those of steps and users.
use Rattle.std.specs.Prelude.{ℕ, Bool, true, false, ◌&&◌, ◌||◌, ◌==◌, cond, List, [], ◌∷◌, codes, bytes_eq, take, drop, Option, Some, None, is_some, option_map}
use Rattle.std.specs.List.{position_or_len}
use Rattle.mcs_plan_source.specs.Cutting.{is_white, code_of}

-- whether a text begins with a space
abbrev pub begins_with_space : List ℕ → Bool
begins_with_space [] = false
begins_with_space (b ∷ bs) = b == 32

-- what is before the first colon that a space follows, and what after the two
abbrev pub cut_at_colon : List ℕ → Option (List ℕ × List ℕ)
cut_at_colon [] = None
cut_at_colon (b ∷ bs) =
    cond (b == 58 && begins_with_space bs) (Some ([], drop 1 bs)) (option_map (λ p. (b ∷ p.0, p.1)) (cut_at_colon bs))

-- whether the first byte after white space is `?`
abbrev pub asks : List ℕ → Bool
asks [] = false
asks (b ∷ bs) = cond (is_white b) (asks bs) (b == 63)

-- whether a text is `program`, with white space after it or nothing
abbrev pub is_program_word : List ℕ → Bool
is_program_word bytes = bytes_eq (take 7 bytes) (codes "program") && begins_white (drop 7 bytes)
  where
    begins_white : List ℕ → Bool
    begins_white [] = true
    begins_white (b ∷ bs) = is_white b

-- whether the first word is `program`
abbrev pub begins_program : List ℕ → Bool
begins_program [] = false
begins_program (b ∷ bs) = cond (is_white b) (begins_program bs) (is_program_word (b ∷ bs))

-- whether a line is a step, an entry of a user, an expectation, or the first line of a program
abbrev pub begins_steps : List ℕ → Bool
begins_steps line = is_some (cut_at_colon (code_of line)) || (asks (code_of line) || begins_program (code_of line))

-- how many lines are before the first of these
abbrev pub count_before : List (List ℕ) → ℕ
count_before lines = position_or_len begins_steps lines
