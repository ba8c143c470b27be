-- How a line is cut into words and a comment.
use Rattle.std.specs.Prelude.{ℕ, ◌+◌, Bool, true, ◌&&◌, ◌||◌, ◌==◌, not, cond, List, [], ◌∷◌, length, take, drop, Option, Some, None}
use Rattle.std.specs.List.{filter, slice_split}

-- white space: a space or a tab
abbrev pub is_white : ℕ → Bool
is_white b = b == 32 || b == 9

-- whether there is a byte
abbrev pub is_some_text : List ℕ → Bool
is_some_text bs = not (length bs == 0)

-- the words of a line: what is between white space, from one to the next, where that is something
abbrev pub words_of : List ℕ → List (List ℕ)
words_of line = filter is_some_text (slice_split is_white line)

-- how many bytes are before the `#` of a comment, which is where one may begin or after white
-- space; all if there is none
abbrev pub code_len : Bool → List ℕ → ℕ
code_len begins [] = 0
code_len begins (b ∷ bs) = cond (begins && b == 35) 0 (1 + code_len (is_white b) bs)

-- a line without its comment
abbrev pub code_of : List ℕ → List ℕ
code_of line = take (code_len true line) line

-- what follows a first byte
abbrev pub without_first : List ℕ → Option (List ℕ)
without_first [] = None
without_first (b ∷ bs) = Some bs

-- the comment of a line, after its `#`
abbrev pub comment_of : List ℕ → Option (List ℕ)
comment_of line = without_first (drop (code_len true line) line)
