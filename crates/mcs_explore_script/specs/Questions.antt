-- The lines of a script that ask something (own).
use Rattle.std.specs.Prelude.{ℕ, ◌+◌, ◌==◌, ◌&&◌, Bool, false, not, cond, List, [], ◌∷◌, Option, Some}
use Rattle.mcs_text.specs.Reading.{words_of}
use Rattle.mcs_explore_questions.specs.Questions.{Said, asks, question_of, said_of}
use Rattle.mcs_explore_questions.specs.Reading.{◌>>=◌}
use Rattle.mcs_explore_questions.specs.There.{Scene}
use Rattle.mcs_explore_script.specs.declared.questions.AskedLine.{AskedLine}
use Rattle.mcs_explore_script.specs.Programs.{is_program_line}

-- whether a line begins with #!
abbrev pub is_marked : List ℕ → Bool
is_marked (a ∷ b ∷ bs) = (a == 35) && (b == 33)
is_marked _ = false

-- whether a line asks something: it begins so, and is none of a program
abbrev pub is_question : List ℕ → Bool
is_question line = is_marked line && not (is_program_line line)

-- what the words of a line ask of what is there, if they ask something
abbrev pub line_asks : Scene → List ℕ → Option Said
line_asks s line = question_of line >>= λ text. asks s (words_of text)

-- the number of a line, and what its words ask, if they ask something
abbrev pub LineAsks : Type 0
LineAsks = ℕ × Option Said

-- the number of the line of a question that was read, and what it asks
abbrev pub said_by : AskedLine → LineAsks
said_by q = (q.line, Some (said_of q.asked))

-- the lines of a text that ask something, where the first line has this number
abbrev pub questions_from : Scene → ℕ → List (List ℕ) → List LineAsks
questions_from s n [] = []
questions_from s n (l ∷ ls) = cond (is_question l) ((n, line_asks s l) ∷ questions_from s (n + 1) ls) (questions_from s (n + 1) ls)
