-- What the calls leave that take an entry.
use Rattle.std.specs.Prelude.{◌≡◌, ℕ, List, [], Option, None, Result, Ok, Err}
use Rattle.mcs_types.specs.declared.entry.Step.{Step}
use Rattle.mcs_book.specs.History.{Line}
use Rattle.mcs_text.specs.Table.{step_text}
use Rattle.mcs_c.specs.declared.answers.Brought.{Brought}
use Rattle.mcs_c.specs.declared.answers.McsAnswer.{McsAnswer}
use Rattle.mcs_c.specs.declared.answers.McsRecord.{McsRecord}
use Rattle.mcs_c.specs.declared.entries.EntryFault.{EntryFault}
use Rattle.mcs_c.specs.declared.entries.EntryFault.TheVariants as fault
use Rattle.mcs_c.specs.declared.output.Ending.{Ending}
use Rattle.mcs_c.specs.declared.output.Handed.{Handed}
use Rattle.mcs_c.specs.declared.output.McsEnd.{McsEnd}
use Rattle.mcs_c.specs.declared.pieces.RunOutput.{RunOutput}
use Rattle.mcs_c.specs.Answering.{Brings, IsBrought, line_count, newest}
use Rattle.mcs_c.specs.Handing.{Ends, HandsOut, IsRefused, at_line, with_status}
use Rattle.mcs_c.specs.Replays.{IsEnd, IsStep, Steps, after, going}

-- the number of the fault of an entry
abbrev pub entry_fault : EntryFault → ℕ
entry_fault fault.Form = 15
entry_fault fault.Range = 16

-- the line of a step, if an entry encodes one
abbrev pub line_said : Result Step EntryFault → List ℕ
line_said (Ok s) = step_text s
line_said (Err f) = []

-- how a call ends that writes it
abbrev pub ending_said : Result Step EntryFault → Ending
ending_said (Ok s) = with_status 0
ending_said (Err f) = at_line 0 (entry_fault f)

-- the line of what an entry encodes, with how the call ends
pub record IsSpelled (said : Result Step EntryFault) (h : Handed) : Type 0 where
  pub text : h.text.items ≡ line_said said
  pub ending : h.ending ≡ ending_said said

-- what `mcs_step_line` leaves: as much as fits of the line of the step that the entry encodes; if
-- it encodes none, the line has no bytes, and the status is 2
pub record Spells (said : Result Step EntryFault) (status : ℕ) (old new : List ℕ) (end : McsEnd) : Type 0 where
  pub wrote : HandsOut (line_said said) old new end.length
  pub ends : Ends (ending_said said) status end

-- the line of the book that a line of text adds after a script, if it adds one
abbrev pub line_added : (script line : List ℕ) → Option Line
line_added script line = newest (line_count (going script).course.stands.book) (after (going script) line).course.stands.book

-- a line was taken after a script: this it adds to the trace, and this it returned
pub record IsTaken (script line : List ℕ) (output : RunOutput) (b : Brought) : Type 0 where
  pub steps : IsStep script line output.text.items output.ended
  pub brings : IsBrought (line_added script line) b

-- an entry was taken after a script: this is the text of its step, and this it returned
abbrev pub HasEntered : (script : List ℕ) → Result Step EntryFault → Result RunOutput EntryFault → Brought → Type 0
HasEntered script (Ok s) (Ok output) b = IsStep script (step_text s) output.text.items output.ended × IsBrought (line_added script (step_text s)) b
HasEntered script (Err f) (Err g) b = (g ≡ f) × IsBrought None b
HasEntered script said output b = ⊥

-- the text of an entry's step was written to the caller, or why it encodes no step
abbrev pub HandsOutput : Result RunOutput EntryFault → (status : ℕ) → (old new : List ℕ) → McsEnd → Type 0
HandsOutput (Ok output) status old new end = HandsOut output.text.items old new end.length × IsEnd output.ended status end
HandsOutput (Err f) status old new end = HandsOut [] old new end.length × Ends (at_line 0 (entry_fault f)) status end

-- what `mcs_step_entry` leaves: if the entry encodes a step, what `mcs_step` leaves of its line,
-- with the answer and the records of the line that this adds to the book; else only the fault
abbrev pub Enters : (script : List ℕ) → Result Step EntryFault → (status : ℕ) → (old new : List ℕ) → McsEnd → McsAnswer → (from to : List McsRecord) → Type 0
Enters script (Ok s) status old new end answer from to = Steps script (step_text s) status old new end × Brings (line_added script (step_text s)) answer from to
Enters script (Err f) status old new end answer from to = HandsOut [] old new end.length × Ends (at_line 0 (entry_fault f)) status end × Brings None answer from to

-- memory was refused: that was answered, and nothing was written
pub record IsRefusedAll (status : ℕ) (old new : List ℕ) (end end' : McsEnd) (answer answer' : McsAnswer) (from to : List McsRecord) : Type 0 where
  pub outright : IsRefused status old new end end'
  pub answer_stays : answer' ≡ answer
  pub records_stay : to ≡ from
