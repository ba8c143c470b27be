-- What a run of users leaves.
use Rattle.std.specs.Prelude.{◌≡◌, ◌⊎◌, ℕ, List, [], ◌++◌, Option, Some, None}
use Rattle.std.specs.Io.KnownBytes.{Appends, Consumes, IsAtEnd}
use Rattle.mcs_book.specs.Boots.{Boot}
use Rattle.mcs_book.specs.History.{Book, IsLegal}
use Rattle.mcs_book.specs.Fair.{IsFair}
use Rattle.mcs_text.specs.declared.fault.LineFault.{LineFault}
use Rattle.mcs_text.specs.declared.steps.UserEntry.{UserEntry}
use Rattle.mcs_trace.specs.declared.sink.Sink.{Sink}
use Rattle.mcs_cores.specs.declared.run.RunFault.{RunFault}
use Rattle.mcs_cores.specs.declared.run.RunFault.TheVariants as run
use Rattle.mcs_seats.specs.declared.settle.FinishFault.{FinishFault}
use Rattle.mcs_seats.specs.declared.settle.FinishFault.TheVariants as finish
use Rattle.mcs_phases.specs.declared.fault.SimFault.{SimFault}
use Rattle.mcs_phases.specs.declared.fault.SimFault.TheVariants as fault
use Rattle.mcs_source.specs.declared.source.Source.{Source}
use Rattle.mcs_phases.specs.Script.{users}
use Rattle.mcs_sim.specs.Users.{UsersStopSoon}
use Rattle.mcs_sim.specs.Trace.{trace}
use Rattle.mcs_sim.specs.Runs.{Begins}

-- all of an input was read, in which nothing is wrong: it says this boot and these entries, where
-- this many cores were asked for
pub record Reads (asked : Option ℕ) (left left' : Option (List ℕ)) (boot : Boot) (entries : List UserEntry) : Type 0 where
  pub text : List ℕ
  pub read : Consumes left left' text
  pub ended : IsAtEnd left'
  pub faultless : users asked text ≡ (record { boot = Some boot; items = entries }, None)

-- an input was read to a faulty line: the input has ended, or the fault remains, whatever follows;
-- and at most a piece was read after what gave no fault
pub record ReadsTo (line : ℕ) (why : LineFault) (asked : Option ℕ) (left left' : Option (List ℕ)) : Type 0 where
  pub text : List ℕ
  pub read : Consumes left left' text
  pub stops : UsersStopSoon asked text
  pub named : IsAtEnd left' ⊎ ((more : List ℕ) → (users asked (text ++ more)).1 ≡ Some (line, why))
  pub faulty : (users asked text).1 ≡ Some (line, why)

-- part of an input was read, at most a piece of it after what gave no fault
abbrev pub ReadsPart : (asked : Option ℕ) (left left' : Option (List ℕ)) → Type 0
ReadsPart asked left left' = (text : List ℕ) × Consumes left left' text × UsersStopSoon asked text

-- an input was read that says a boot and entries
abbrev pub ReadsUsers : (asked : Option ℕ) (left left' : Option (List ℕ)) → Type 0
ReadsUsers asked left left' = (boot : Boot) × (entries : List UserEntry) × Reads asked left left' boot entries

-- why users could not be read
abbrev pub EndsUsers : SimFault → (asked : Option ℕ) (left left' : Option (List ℕ)) → Type 0
EndsUsers (fault.Script line why) asked left left' = ReadsTo line why asked left left'
EndsUsers fault.Read asked left left' = ReadsPart asked left left'
EndsUsers fault.OutOfMemory asked left left' = ReadsPart asked left left'
EndsUsers _ asked left left' = ⊥

-- how the program says why a run ended early
abbrev pub run_fault : RunFault → SimFault
run_fault run.BookFull = fault.BookFull
run_fault run.OutOfMemory = fault.OutOfMemory
run_fault run.NoThread = fault.NotStarted

-- how the program says why a machine did not settle
abbrev pub finish_fault : FinishFault → SimFault
finish_fault finish.OutOfMemory = fault.OutOfMemory
finish_fault _ = fault.Failed

-- a fault of a machine that ran users
abbrev pub IsOfMachine : SimFault → Type 0
IsOfMachine fault.BookFull = Unit {0}
IsOfMachine fault.OutOfMemory = Unit {0}
IsOfMachine fault.Failed = Unit {0}
IsOfMachine fault.NotStarted = Unit {0}
IsOfMachine _ = ⊥

-- a book that a machine can have that began with this boot
pub record IsBookOf (boot : Boot) (book : Book) : Type 0 where
  pub booted : book.boot ≡ boot
  pub legal : IsLegal book
  pub fair : IsFair book

-- what a run leaves that ended without fault: it read all of the input, and wrote all of the trace
-- of a book that is legal and fair and begins with the boot that it read
pub record RunFinishes (asked : Option ℕ) (left left' out out' : Option (List ℕ)) : Type 0 where
  pub boot : Boot
  pub entries : List UserEntry
  pub book : Book
  pub read : Reads asked left left' boot entries
  pub settled : IsBookOf boot book
  pub wrote : Appends out out' (trace book)

-- what a run leaves whose writing failed: a beginning of that trace
pub record RunWrites (asked : Option ℕ) (left left' out out' : Option (List ℕ)) : Type 0 where
  pub boot : Boot
  pub entries : List UserEntry
  pub book : Book
  pub read : Reads asked left left' boot entries
  pub settled : IsBookOf boot book
  pub wrote : Begins out out' (trace book)

-- what a run leaves that ended early: nothing was written, but where the writing itself failed.
-- Memory may be refused while users are read, or after that
abbrev pub RunEnds : SimFault → (asked : Option ℕ) (left left' out out' : Option (List ℕ)) → Type 0
RunEnds fault.Argument asked left left' out out' = ⊥
RunEnds (fault.Script line why) asked left left' out out' = ReadsTo line why asked left left' × Appends out out' []
RunEnds fault.Read asked left left' out out' = ReadsPart asked left left' × Appends out out' []
RunEnds fault.Write asked left left' out out' = RunWrites asked left left' out out'
RunEnds fault.BookFull asked left left' out out' = ReadsUsers asked left left' × Appends out out' []
RunEnds fault.OutOfMemory asked left left' out out' = (ReadsPart asked left left' ⊎ ReadsUsers asked left left') × Appends out out' []
RunEnds fault.Failed asked left left' out out' = ReadsUsers asked left left' × Appends out out' []
RunEnds fault.NotStarted asked left left' out out' = ReadsUsers asked left left' × Appends out out' []

-- a run from a source to a sink was finished
abbrev pub RunFinished : {R W : Type 0} → (R → Option (List ℕ)) → (W → Option (List ℕ)) → (asked : Option ℕ) (from from' : Source R) → (to to' : Sink W) → Type 0
RunFinished remaining contents asked from from' to to' = RunFinishes asked (remaining from.reader) (remaining from'.reader) (contents to.writer) (contents to'.writer)

-- a run from a source to a sink was ended by a fault
abbrev pub RunEndedBy : {R W : Type 0} → (R → Option (List ℕ)) → (W → Option (List ℕ)) → (asked : Option ℕ) (from from' : Source R) → (to to' : Sink W) → SimFault → Type 0
RunEndedBy remaining contents asked from from' to to' e = RunEnds e asked (remaining from.reader) (remaining from'.reader) (contents to.writer) (contents to'.writer)
