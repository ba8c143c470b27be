-- The verdicts on a script, line by line: a definition over its text and the book that its steps
-- make.
use Rattle.std.specs.Prelude.{ℕ, ◌-◌, Bool, true, false, cond, List, [], ◌∷◌, ◌==◌, ◌&&◌, take, length, Option, Some, None}
use Rattle.mcs_book.specs.History.{Book}
use Rattle.mcs_phases.specs.Feeds.{FeedState, no_line, at_line, fed}
use Rattle.mcs_lab_check.specs.Asking.{asked_of}
use Rattle.mcs_lab_check.specs.Verdicts.{line_count, sent_count, newest, answers_so, found, reason, was_away, says_so}
use Rattle.mcs_lab_check.specs.declared.questions.Asked.{Asked}
use Rattle.mcs_lab_check.specs.declared.questions.Asked.TheVariants as asked
use Rattle.mcs_lab_check.specs.declared.last.Last.{Last}
use Rattle.mcs_lab_check.specs.declared.last.Last.TheVariants.{NoStep, Away, LetIn}
use Rattle.mcs_lab_check.specs.declared.last.LineResult.{LineResult}
use Rattle.mcs_lab_check.specs.declared.last.LineResult.TheVariants as line_result

-- a script that is checked: its replay, whether its last step was accepted, and the text of that
-- step
pub record Checked : Type 0 where
  pub run : FeedState
  pub last : Last
  pub step : List ℕ

-- the book that its steps made, once the boot has ended
abbrev pub book_of : Checked → Option Book
book_of c = c.run.course.stands.book

-- nothing was read
abbrev pub unread : Checked
unread = record { run = at_line no_line; last = NoStep; step = [] }

-- the last step was accepted where the book has more lines than before
abbrev pub last_of : Option Book → Option Book → Last
last_of before after = cond (line_count after == line_count before) Away (LetIn 0 (sent_count before))

-- the verdict of a line that is no remark, before which the book was this one; while the boot
-- continues it is no step
abbrev pub stepped : Option Book → Option Book → Checked → List ℕ → LineResult × Checked
stepped before None c text = (line_result.Nothing, c)
stepped before (Some b) c text = (line_result.Step, record c { last = last_of before (Some b); step = text })

-- the verdict of a line of a record: what is before the record that is found is passed over
abbrev pub with_found : Option (ℕ × ℕ) → Checked → LineResult × Checked
with_found None c = (line_result.Record false, c)
with_found (Some at) c = (line_result.Record true, record c { last = LetIn at.0 at.1 })

-- whether the answer to a question is yes
abbrev pub is_so : Checked → List ℕ → Asked → Bool
is_so c text (asked.Away why) = was_away c.last (reason (book_of c) c.step) why text
is_so c text (asked.State q) = says_so (book_of c) q text

-- the verdict of a question
abbrev pub answered : Checked → List ℕ → Option Asked → LineResult
answered c text None = line_result.NoQuestion
answered c text (Some a) = line_result.Asked (is_so c text a)

-- what follows `#? ` on a line, without the newline
abbrev pub question_text : List ℕ → Option (List ℕ)
question_text (a ∷ b ∷ c ∷ text) = cond (a == 35 && b == 63 && c == 32) (Some (take (length text - 1) text)) None
question_text (a ∷ b ∷ []) = None
question_text (a ∷ []) = None
question_text [] = None

-- the verdict of a remark
abbrev pub remarked : Checked → Option (List ℕ) → LineResult
remarked c None = line_result.Nothing
remarked c (Some text) = answered c text (asked_of text)

-- the verdict of a line by its first byte, where the replay has taken it, and before it the book
-- was this one
abbrev pub judged_by : Option Book → Checked → ℕ → List ℕ → LineResult × Checked
judged_by before c b text =
    cond (b == 61) (line_result.Answer (answers_so c.last (newest (book_of c)) text), c)
    (cond (b == 43) (with_found (found c.last (newest (book_of c)) text) c)
    (cond (b == 35) (remarked c (question_text text), c)
    (cond (b == 10) (line_result.Nothing, c)
    (stepped before (book_of c) c text))))

-- with a line more, which ends in a newline
abbrev pub fed_line : Checked → List ℕ → Checked
fed_line c text = record c { run = fed c.run text }

-- the verdict of a line, which ends in a newline, and the script after it
abbrev pub judged : Checked → List ℕ → LineResult × Checked
judged c [] = (line_result.Nothing, fed_line c [])
judged c (b ∷ bs) = judged_by (book_of c) (fed_line c (b ∷ bs)) b (b ∷ bs)

-- the verdicts on the lines of a script, in their order
abbrev pub verdicts : Checked → List (List ℕ) → List LineResult
verdicts c [] = []
verdicts c (l ∷ ls) = (judged c l).0 ∷ verdicts (judged c l).1 ls
