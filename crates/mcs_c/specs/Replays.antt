-- What replaying a script returns, and taking one more line.
use Rattle.std.specs.Prelude.{◌≡◌, ℕ, Bool, true, false, List, [], ◌∷◌, ◌++◌, Result, Ok, Err}
use Rattle.mcs_text.specs.Faults.{fault_number}
use Rattle.mcs_phases.specs.declared.fault.SimFault.{SimFault}
use Rattle.mcs_phases.specs.declared.fault.SimFault.TheVariants as fault
use Rattle.mcs_phases.specs.Script.{steps}
use Rattle.mcs_phases.specs.Feeds.{FeedState, Course, IsFairBook, answer_of, at_line, ended, fed, no_line}
use Rattle.mcs_sim.specs.Outcomes.{ComesOfScript}
use Rattle.mcs_sim.specs.Trace.{trace_of}
use Rattle.mcs_c.specs.declared.output.McsEnd.{McsEnd}
use Rattle.mcs_c.specs.Handing.{HandsOut}

-- a replay after a piece more, or after the end of the input where the piece is empty
abbrev pub after : FeedState → List ℕ → FeedState
after g [] = at_line (ended g)
after g (b ∷ bs) = fed g (b ∷ bs)

-- a replay after a text whose end has not come
abbrev pub going : List ℕ → FeedState
going text = fed (at_line no_line) text

-- a replay of a whole text
abbrev pub course_of : List ℕ → Course
course_of text = ended (going text)

-- the trace of a replay so far
abbrev pub trace_so_far : FeedState → List ℕ
trace_so_far g = trace_of g.course.stands.book

-- what a trace has more than before was added to a text
pub record Adds (old new : FeedState) (text text' : List ℕ) : Type 0 where
  pub more : List ℕ
  pub adds : trace_so_far new ≡ trace_so_far old ++ more
  pub grown : text' ≡ text ++ more

-- a piece was taken, what it adds to the trace was added to a text, and this was answered
pub record Tells (old : FeedState) (piece : List ℕ) (new : FeedState) (text text' : List ℕ) (answer : Result (Unit {0}) SimFault) : Type 0 where
  pub takes : new ≡ after old piece
  pub adds : Adds old new text text'
  pub answers : answer ≡ answer_of new.course.fault
  pub fair : IsFairBook new.course.stands.book

-- a script was replayed to its end, or to its fault: this is its trace, and this was answered
pub record IsReplay (script trace : List ℕ) (answer : Result (Unit {0}) SimFault) : Type 0 where
  pub is : trace ≡ trace_of (course_of script).stands.book
  pub answers : answer ≡ answer_of (course_of script).fault
  pub fair : IsFairBook (course_of script).stands.book

-- a line was taken after a script, or the end of the input where it is empty: this is what the
-- trace has more, and this was answered
pub record IsStep (script line more : List ℕ) (answer : Result (Unit {0}) SimFault) : Type 0 where
  pub adds : trace_so_far (after (going script) line) ≡ trace_so_far (going script) ++ more
  pub answers : answer ≡ answer_of (after (going script) line).course.fault
  pub fair : IsFairBook (after (going script) line).course.stands.book

-- whether memory was refused
abbrev pub is_refused : Result (Unit {0}) SimFault → Bool
is_refused (Ok u) = false
is_refused (Err fault.OutOfMemory) = true
is_refused (Err e) = false

-- the status for the answer of a replay
abbrev pub status_of : Result (Unit {0}) SimFault → ℕ
status_of (Ok u) = 0
status_of (Err (fault.Script line why)) = 2
status_of (Err fault.BookFull) = 5
status_of (Err fault.OutOfMemory) = 6
status_of (Err e) = 7

-- the line that is refused, and why
abbrev pub line_of : Result (Unit {0}) SimFault → ℕ
line_of (Err (fault.Script line why)) = line
line_of r = 0

abbrev pub why_of : Result (Unit {0}) SimFault → ℕ
why_of (Err (fault.Script line why)) = fault_number why
why_of r = 0

-- how a call reports the answer of a replay
pub record IsEnd (answer : Result (Unit {0}) SimFault) (status : ℕ) (end : McsEnd) : Type 0 where
  pub answered : status ≡ status_of answer
  pub line : end.line ≡ line_of answer
  pub why : end.fault ≡ why_of answer

-- what `mcs_replay` leaves: of the script's trace as much as fits. It is the trace of the steps up
-- to the end of the script, its first faulty line, or the first step for which the book is full,
-- and the book is legal and fair
pub record Replays (script : List ℕ) (status : ℕ) (old new : List ℕ) (end : McsEnd) : Type 0 where
  pub wrote : HandsOut (trace_of (course_of script).stands.book) old new end.length
  pub ends : IsEnd (answer_of (course_of script).fault) status end
  pub comes : ComesOfScript (steps script) (course_of script)
  pub fair : IsFairBook (course_of script).stands.book

-- what `mcs_step` leaves: of what the line adds to the trace of the script before it as much as
-- fits
pub record Steps (script line : List ℕ) (status : ℕ) (old new : List ℕ) (end : McsEnd) : Type 0 where
  pub more : List ℕ
  pub adds : trace_so_far (after (going script) line) ≡ trace_so_far (going script) ++ more
  pub wrote : HandsOut more old new end.length
  pub ends : IsEnd (answer_of (after (going script) line).course.fault) status end
  pub fair : IsFairBook (after (going script) line).course.stands.book
