-- When two texts of users have the same lines.
use Rattle.std.specs.Prelude.{◌≡◌, ℕ, Bool, true, false, ◌&&◌, ◌||◌, not, cond, List, [], ◌∷◌, ◌++◌, ◌==◌, if◌then◌else◌, bytes_eq, nat_eq}
use Rattle.std.specs.List.{ends_with}
use Rattle.mcs_text.specs.Reading.{lines_of, words_of}

-- the first of some words
abbrev pub first_of : List (List ℕ) → List ℕ
first_of [] = []
first_of (word ∷ words) = word

-- a word names a user, whose statement follows, or begins what may wait for ever
abbrev pub is_of_user : List ℕ → Bool
is_of_user word = bytes_eq word (105 ∷ 100 ∷ 108 ∷ 101 ∷ []) || ends_with nat_eq word (58 ∷ [])

-- a line asks something of all orders that is reported by its line
abbrev pub is_question : List ℕ → Bool
is_question (a ∷ b ∷ c ∷ text) = cond (a == 35 && b == 33) (cond (c == 32) (not (is_of_user (first_of (words_of text)))) true) false
is_question (a ∷ b ∷ []) = a == 35 && b == 33
is_question (a ∷ []) = false
is_question [] = false

-- a line is a question, or is another one; a comment without words is neither
abbrev pub is_of : Bool → List ℕ → Bool
is_of true line = is_question line
is_of false line = not (is_question line) && not (bytes_eq line (35 ∷ []))

-- the text of the lines that are questions, or of the others
abbrev pub kept : Bool → List (List ℕ) → List ℕ
kept asks [] = []
kept asks (line ∷ lines) = if is_of asks line then (line ++ 10 ∷ []) ++ kept asks lines else kept asks lines

-- a text has the questions of another in their order, and its other lines in theirs; there may be
-- other comments without words
pub record HasLinesOf (text aligned : List ℕ) : Type 0 where
  pub questions : kept true (lines_of aligned) ≡ kept true (lines_of text)
  pub others : kept false (lines_of aligned) ≡ kept false (lines_of text)
