-- What a run writes.
use Rattle.std.specs.Prelude.{◌≡◌, ◌⊎◌, ◌≤◌, ℕ, Bool, true, false, Result, Err, List, [], ◌∷◌, ◌++◌, length, Option, Some, None}
use Rattle.std.specs.Io.KnownBytes.{Appends, Consumes, IsAtEnd}
use Rattle.mcs_types.specs.declared.entry.Step.{Step}
use Rattle.mcs_book.specs.Boots.{Boot}
use Rattle.mcs_book.specs.History.{Book, book_of, IsLegal}
use Rattle.mcs_book.specs.Fair.{IsFair}
use Rattle.mcs_kernel.specs.Runs.{full_after}
use Rattle.mcs_text.specs.declared.fault.LineFault.{LineFault}
use Rattle.mcs_trace.specs.Output.{Moves, Puts, Rose, kept}
use Rattle.mcs_trace.specs.declared.sink.Sink.{Sink}
use Rattle.mcs_phases.specs.declared.fault.SimFault.{SimFault}
use Rattle.mcs_phases.specs.declared.fault.SimFault.TheVariants as fault
use Rattle.mcs_sim.specs.Trace.{trace, trace_of}
use Rattle.mcs_phases.specs.Script.{Script, steps}
use Rattle.mcs_phases.specs.Feeds.{fed, at_line, no_line, answer_of}
use Rattle.mcs_source.specs.declared.source.Source.{Source}

-- the trace of the book that the steps make after a boot
unfoldable pub script_trace : Option Boot → List Step → List ℕ
script_trace None ss = []
script_trace (Some b) ss = trace (book_of b ss)

-- what is written before a faulty line: nothing where that is in the boot, as no step was read
unfoldable pub trace_before : Option Boot → List Step → List ℕ
trace_before b [] = []
trace_before b (s ∷ ss) = script_trace b (s ∷ ss)

-- what is written of a script
abbrev pub written_by : Script Step → Option (ℕ × LineFault) → List ℕ
written_by s None = script_trace s.boot s.items
written_by s (Some f) = trace_before s.boot s.items

-- what is written of a text
unfoldable pub written : List ℕ → List ℕ
written text = written_by (steps text).0 (steps text).1

-- a beginning of this text was written
abbrev pub Begins : (old new : Option (List ℕ)) (text : List ℕ) → Type 0
Begins old new text = (rest : List ℕ) × Moves old new text rest

-- this text was written to a sink
abbrev pub Writes : {W : Type 0} → (W → Option (List ℕ)) → (old new : Sink W) → List ℕ → Type 0
Writes contents old new text = Appends (contents old.writer) (contents new.writer) text

-- a beginning of this text was written to a sink
abbrev pub WritesPart : {W : Type 0} → (W → Option (List ℕ)) → (old new : Sink W) → List ℕ → Type 0
WritesPart contents old new text = Begins (contents old.writer) (contents new.writer) text

-- the book is full at a step of this script
abbrev pub IsFull : Option Boot → List Step → Type 0
IsFull None ss = ⊥
IsFull (Some b) ss = (n : ℕ) × (full_after 0 (record { boot = b; lines = [] }) ss ≡ Some n)

-- the first step of this script at which the book is full is that of this number, from 1 on
abbrev pub IsFullAt : ℕ → Option Boot → List Step → Type 0
IsFullAt n None ss = ⊥
IsFullAt n (Some b) ss = full_after 0 (record { boot = b; lines = [] }) ss ≡ Some n

-- the book is full at no step of this script
abbrev pub IsRoomy : Option Boot → List Step → Type 0
IsRoomy None ss = Unit {0}
IsRoomy (Some b) ss = full_after 0 (record { boot = b; lines = [] }) ss ≡ None

-- the book that the steps make after a boot is legal and fair
abbrev pub IsFairRun : Option Boot → List Step → Type 0
IsFairRun None ss = Unit {0}
IsFairRun (Some b) ss = IsLegal (book_of b ss) × IsFair (book_of b ss)

-- the book whose trace is written before a faulty line is fair
abbrev pub IsFairBefore : Option Boot → List Step → Type 0
IsFairBefore b [] = Unit {0}
IsFairBefore b (s ∷ ss) = IsFairRun b (s ∷ ss)

-- what a run of a text leaves that ended early, but for a read fault: all that is written before a
-- faulty line, or a beginning of that
abbrev pub Leaves : SimFault → (old new : Option (List ℕ)) (text : List ℕ) → Type 0
Leaves fault.Argument old new text = ⊥
Leaves (fault.Script line why) old new text = Appends old new (written text) × ((steps text).1 ≡ Some (line, why)) × IsRoomy (steps text).0.boot (steps text).0.items
    × IsFairBefore (steps text).0.boot (steps text).0.items
Leaves fault.Read old new text = ⊥
Leaves fault.Write old new text = Begins old new (written text)
Leaves fault.BookFull old new text = Begins old new (written text) × IsFull (steps text).0.boot (steps text).0.items
Leaves fault.OutOfMemory old new text = Begins old new (written text)
Leaves fault.Failed old new text = ⊥
Leaves fault.NotStarted old new text = ⊥

-- what a run leaves that ended without fault: it read a text to the end of the input, in which
-- nothing is wrong, and wrote all of the trace of the book that its steps make after its boot,
-- which is legal and fair
pub record Finishes (left left' out out' : Option (List ℕ)) : Type 0 where
  pub text : List ℕ
  pub boot : Boot
  pub taken : List Step
  pub read : Consumes left left' text
  pub ended : IsAtEnd left'
  pub faultless : steps text ≡ (record { boot = Some boot; items = taken }, None)
  pub wrote : Appends out out' (trace (book_of boot taken))
  pub legal : IsLegal (book_of boot taken)
  pub fair : IsFair (book_of boot taken)

-- what the trace of a book has more than that of one before was put into a sink
abbrev pub TellsMore : {W : Type 0} → (W → Option (List ℕ)) → (old new : Sink W) → (before after : Option Book) → Type 0
TellsMore contents old new before after = (more : List ℕ) × (trace_of after ≡ trace_of before ++ more) × Puts contents old new more

-- what the trace of a book has more than that of one before was written after what a sink kept back
abbrev pub WritesMore : {W : Type 0} → (W → Option (List ℕ)) → (old new : Sink W) → (before after : Option Book) → Type 0
WritesMore contents old new before after = (more : List ℕ) × (trace_of after ≡ trace_of before ++ more) × Appends (contents old.writer) (contents new.writer) (kept old ++ more)

-- a call of the writer of a sink failed for good, now or before
abbrev pub HasFailed : {W : Type 0} → (old new : Sink W) → Type 0
HasFailed old new = (old.is_broken ≡ true) ⊎ Rose old.failed new.failed

-- the answer of a run with this fault, if it has one, unless its writing failed
abbrev pub answer_with : Bool → Option SimFault → Result (Unit {0}) SimFault
answer_with true f = Err fault.Write
answer_with false f = answer_of f

-- the fault of a line remains: the input has ended, or no bytes that follow change it
abbrev pub IsNamed : (left : Option (List ℕ)) (text : List ℕ) (line : ℕ) (why : LineFault) → Type 0
IsNamed left text line why = IsAtEnd left ⊎ ((more : List ℕ) → (steps (text ++ more)).1 ≡ Some (line, why))

-- reading stops soon: within a piece of 4,096 bytes, at most, after what gave no fault
pub record StopsSoon (text : List ℕ) : Type 0 where
  pub before : List ℕ
  pub piece : List ℕ
  pub split : text ≡ before ++ piece
  pub few : length piece ≤ 4096
  pub goes : (fed (at_line no_line) before).course.fault ≡ None

-- a text was read from an input, at most a piece of it after a fault
pub record ReadsText (left left' : Option (List ℕ)) (text : List ℕ) : Type 0 where
  pub read : Consumes left left' text
  pub stops : StopsSoon text

-- the trace of all lines of this text that have ended was written
abbrev pub WritesLines : (old new : Option (List ℕ)) (text : List ℕ) → Type 0
WritesLines old new text = Appends old new (trace_of (fed (at_line no_line) text).course.stands.book)

-- what a run leaves that ended early: it read a text, and left what the text gives before the
-- fault; a line's fault is the fault of the text, whatever follows. Where a read fails the trace of
-- all lines before it was written, and that is a beginning of what the text gives; after a fault of
-- writing, or a refusal of memory, a beginning of that was written
abbrev pub Ends : SimFault → (left left' out out' : Option (List ℕ)) → Type 0
Ends (fault.Script line why) left left' out out' = (text : List ℕ) × ReadsText left left' text × IsNamed left' text line why × Leaves (fault.Script line why) out out' text
Ends fault.Read left left' out out' = (text : List ℕ) × ReadsText left left' text × WritesLines out out' text × Begins out out' (written text)
Ends e left left' out out' = (text : List ℕ) × ReadsText left left' text × Leaves e out out' text

-- a run from a source to a sink was finished
abbrev pub Finished : {R W : Type 0} → (R → Option (List ℕ)) → (W → Option (List ℕ)) → (from from' : Source R) → (to to' : Sink W) → Type 0
Finished remaining contents from from' to to' = Finishes (remaining from.reader) (remaining from'.reader) (contents to.writer) (contents to'.writer)

-- a run from a source to a sink was ended by a fault
abbrev pub EndedBy : {R W : Type 0} → (R → Option (List ℕ)) → (W → Option (List ℕ)) → (from from' : Source R) → (to to' : Sink W) → SimFault → Type 0
EndedBy remaining contents from from' to to' e = Ends e (remaining from.reader) (remaining from'.reader) (contents to.writer) (contents to'.writer)
