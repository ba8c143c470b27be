-- Whether what follows a step holds: of its answer, its records, and the state after it.
use Rattle.std.specs.Prelude.{ℕ, ◌+◌, Bool, true, false, cond, List, [], ◌∷◌, Option, Some, None, codes, bytes_eq, nat_lt, drop, length}
use Rattle.mcs_types.specs.declared.id.CoreId.{CoreId}
use Rattle.mcs_types.specs.declared.id.ObjId.{ObjId}
use Rattle.mcs_types.specs.declared.record.Rec.{Rec}
use Rattle.mcs_text.specs.Reading.{words_of}
use Rattle.mcs_text.specs.Table.{answer_text, record_text}
use Rattle.mcs_book.specs.History.{Book, Line, line_of_number, log_of}
use Rattle.mcs_book.specs.Messages.{next_message}
use Rattle.mcs_kernel.specs.Faults.{fault_of}
use Rattle.mcs_kernel.specs.declared.fault.EnterFault.{EnterFault}
use Rattle.mcs_kernel.specs.declared.fault.EnterFault.TheVariants as fault
use Rattle.mcs_sim.specs.Trace.{sent_with}
use Rattle.mcs_lab_check.specs.Names.{number_of, object_of}
use Rattle.mcs_lab_check.specs.Seen.{seen}
use Rattle.mcs_lab_check.specs.declared.questions.Question.{Question}
use Rattle.mcs_lab_check.specs.declared.last.Last.{Last}
use Rattle.mcs_lab_check.specs.declared.last.Last.TheVariants.{NoStep, Away, LetIn}

-- how many lines a book has after its boot, if there is one
abbrev pub line_count : Option Book → ℕ
line_count None = 0
line_count (Some b) = length b.lines

-- how many messages were sent in it
abbrev pub sent_count : Option Book → ℕ
sent_count None = 0
sent_count (Some b) = next_message (log_of b)

-- the newest line of a book
abbrev pub newest : Option Book → Option Line
newest None = None
newest (Some b) = line_of_number b (length b.lines)

-- whether an answer is written so: the text is the line of the trace
abbrev pub is_answer : Option Line → List ℕ → Bool
is_answer None text = false
is_answer (Some l) text = bytes_eq (answer_text l.answer) text

-- whether the answer of the last step is written so
abbrev pub answers_so : Last → Option Line → List ℕ → Bool
answers_so NoStep l text = false
answers_so Away l text = false
answers_so (LetIn next sent) l text = is_answer l text

-- the place after the first record that is written so, of those from a number on, before which this
-- many messages were sent, and how many were sent before that place
abbrev pub found_from : ℕ → ℕ → List Rec → List ℕ → Option (ℕ × ℕ)
found_from next sent [] text = None
found_from next sent (r ∷ rs) text = cond (bytes_eq (record_text sent r) text) (Some (next + 1, sent_with sent r)) (found_from (next + 1) (sent_with sent r) rs text)

-- the same of a line that there may be
abbrev pub found_in : Option Line → ℕ → ℕ → List ℕ → Option (ℕ × ℕ)
found_in None next sent text = None
found_in (Some l) next sent text = found_from next sent (drop next l.records) text

-- the same of the records of the last step that were not passed
abbrev pub found : Last → Option Line → List ℕ → Option (ℕ × ℕ)
found NoStep l text = None
found Away l text = None
found (LetIn next sent) l text = found_in l next sent text

-- who enters, and on which core, by the words of a step
abbrev pub entrant : Option ℕ → Option ObjId → Option (CoreId × ObjId)
entrant (Some core) (Some t) = cond (nat_lt core 256) (Some (record { 0 = core }, t)) None
entrant (Some core) None = None
entrant None t = None

abbrev pub entrant_in : List (List ℕ) → Option (CoreId × ObjId)
entrant_in (core ∷ t ∷ ws) = entrant (number_of core) (object_of t)
entrant_in (core ∷ []) = None
entrant_in [] = None

-- why the step on a line is skipped
abbrev pub reason_for : Book → Option (CoreId × ObjId) → Option EnterFault
reason_for b None = None
reason_for b (Some e) = fault_of b e.0 e.1

abbrev pub reason : Option Book → List ℕ → Option EnterFault
reason None step = None
reason (Some b) step = reason_for b (entrant_in (words_of step))

-- what is said of a step that was skipped
abbrev pub away_text : Option EnterFault → List ℕ
away_text (Some fault.NotRunning) = codes "away NotRunning"
away_text (Some fault.NoContext) = codes "away NoContext"
away_text (Some fault.WrongCore) = codes "away WrongCore"
away_text (Some fault.BookFull) = codes "away"
away_text (Some fault.OutOfMemory) = codes "away"
away_text None = codes "away"

-- whether a step was skipped, and for the reason that a text gives, if it gives one
abbrev pub was_away : Last → Option EnterFault → Option EnterFault → List ℕ → Bool
was_away NoStep seen why text = false
was_away (LetIn next sent) seen why text = false
was_away Away seen None text = true
was_away Away seen (Some why) text = bytes_eq (away_text seen) text

-- whether a book says so to a question: what its records say, is the text
abbrev pub says_so : Option Book → Question → List ℕ → Bool
says_so None q text = false
says_so (Some b) q text = bytes_eq (seen (log_of b) q) text
