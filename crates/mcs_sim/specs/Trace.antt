-- The trace of a book.
use Rattle.std.specs.Prelude.{◌≡◌, ◌<◌, ◌≤◌, ◌*◌, ◌^◌, ℕ, ◌+◌, ◌-◌, ◌==◌, if◌then◌else◌, List, [], ◌∷◌, ◌++◌, drop, length, reverse, Option, Some, None}
use Rattle.std.specs.List.{flat_map}
use Rattle.mcs_types.specs.declared.boot.BootLine.{BootLine}
use Rattle.mcs_types.specs.declared.record.Rec.{Rec}
use Rattle.mcs_types.specs.declared.record.Rec.TheVariants.{Sent}
use Rattle.mcs_book.specs.History.{Line, Book}
use Rattle.mcs_sim.specs.declared.trace_text.Written.{Written}
use Rattle.mcs_text.specs.Table.{cores_text, boot_text, step_text, answer_text, record_text}

-- how many messages were sent with a record more
abbrev pub sent_with : ℕ → Rec → ℕ
sent_with n (Sent x e mode badge message) = n + 1
sent_with n _ = n

-- how many messages were sent with these records more
abbrev pub sent_after : ℕ → List Rec → ℕ
sent_after n [] = n
sent_after n (r ∷ rs) = sent_after (sent_with n r) rs

-- how many messages were sent with these lines more
abbrev pub sent_in : ℕ → List Line → ℕ
sent_in n [] = n
sent_in n (l ∷ ls) = sent_in (sent_after n l.records) ls

-- lines of the boot, in order
abbrev pub boot_lines_trace : List BootLine → List ℕ
boot_lines_trace lines = flat_map boot_text lines

-- records in order, before which this many messages were sent
abbrev pub records_trace : ℕ → List Rec → List ℕ
records_trace n [] = []
records_trace n (r ∷ rs) = record_text n r ++ records_trace (sent_with n r) rs

-- a line of the book: its step, its answer and its records
abbrev pub line_trace : ℕ → Line → List ℕ
line_trace n l = step_text l.step ++ answer_text l.answer ++ records_trace n l.records

-- lines of the book, in order
abbrev pub lines_trace : ℕ → List Line → List ℕ
lines_trace n [] = []
lines_trace n (l ∷ ls) = line_trace n l ++ lines_trace (sent_after n l.records) ls

-- the trace of a book: the boot, and then its lines in order
unfoldable pub trace : Book → List ℕ
trace b = cores_text b.boot.cores ++ boot_lines_trace (reverse b.boot.lines) ++ lines_trace 0 (reverse b.lines)

-- the trace of a book, if there is one
abbrev pub trace_of : Option Book → List ℕ
trace_of None = []
trace_of (Some b) = trace b

-- all of a trace was written: this many lines, with that of the boot, and this many messages sent
-- with them
abbrev pub all_written : Book → Written
all_written b = record { lines = length b.lines + 1; sent = sent_in 0 (reverse b.lines) }

-- the same, of the trace of a book, if there is one
abbrev pub written_of : Option Book → Written
written_of None = record { lines = 0; sent = 0 }
written_of (Some b) = all_written b

-- the lines of a book after those that were written
abbrev pub unwritten_lines : Written → Book → List Line
unwritten_lines t b = drop (t.lines - 1) (reverse b.lines)

-- the second book is the first, or goes on where that ends
abbrev pub IsLonger : Option Book → Option Book → Type 0
IsLonger None k = Unit {0}
IsLonger (Some b) None = ⊥
IsLonger (Some b) (Some c) = (c.boot ≡ b.boot) × ((more : List Line) × (c.lines ≡ more ++ b.lines))

-- this was written: all of a book, if there is one
pub record IsWrittenBy (t : Written) (k : Option Book) : Type 0 where
  pub is : t ≡ written_of k
  pub fits : t.sent ≤ (t.lines - 1) * 2 ^ 64

-- this much was written of a beginning of a book, or nothing; no line has more messages than 64
-- bits can count
pub record IsWrittenOf (t : Written) (b : Book) : Type 0 where
  pub fits : t.sent ≤ (t.lines - 1) * 2 ^ 64
  pub few : t.lines ≤ length b.lines + 1
  pub all : sent_in t.sent (unwritten_lines t b) ≡ sent_in 0 (reverse b.lines)

-- where a book has a single line more than those that were written, its step has this text as its
-- line
abbrev pub IsReadOf : List ℕ → Written → Book → Type 0
IsReadOf text t b = (l : Line) → 0 < t.lines → unwritten_lines t b ≡ l ∷ [] → step_text l.step ≡ text ++ 10 ∷ []

-- the same of a book that there may be
abbrev pub IsReadOfAny : List ℕ → Written → Option Book → Type 0
IsReadOfAny text t None = Unit {0}
IsReadOfAny text t (Some b) = IsReadOf text t b

-- the lines of the boot, where nothing was written
abbrev pub unwritten_boot : Written → Book → List ℕ
unwritten_boot t b = if t.lines == 0 then cores_text b.boot.cores ++ boot_lines_trace (reverse b.boot.lines) else []

-- what of a book's trace was not written
unfoldable pub unwritten : Written → Book → List ℕ
unwritten t b = unwritten_boot t b ++ lines_trace t.sent (unwritten_lines t b)

-- the same of a book that there may be
abbrev pub unwritten_of : Written → Option Book → List ℕ
unwritten_of t None = []
unwritten_of t (Some b) = unwritten t b

-- this was written: all of a book of which this one is the same or longer
abbrev pub IsWrittenUpTo : Written → Option Book → Type 0
IsWrittenUpTo t k = (j : Option Book) × IsWrittenBy t j × IsLonger j k
