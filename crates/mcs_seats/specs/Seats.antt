-- What a seat keeps. Calls are newest first.
use Rattle.std.specs.Prelude.{ℕ, ◌≡◌, ◌+◌, ◌<◌, List, [], ◌∷◌, length, slice_index_or, Result, Ok, Err, Some, None, OnOk, OnErr, IfOk, IfErr}
use Rattle.std.specs.List.{sum_by}
use Rattle.mcs_types.specs.declared.id.CoreId.{CoreId}
use Rattle.mcs_types.specs.declared.id.ObjId.{ObjId}
use Rattle.mcs_types.specs.declared.entry.Entry.{Entry}
use Rattle.mcs_book.specs.History.{Book, log_of}
use Rattle.mcs_book.specs.Table.{does}
use Rattle.mcs_kernel.specs.Faults.{fault_of, with_entry}
use Rattle.mcs_seats.specs.declared.call.Answered.{Answered}
use Rattle.mcs_seats.specs.declared.call.Outcome.{Outcome}
use Rattle.mcs_seats.specs.declared.call.Outcome.TheVariants.{Entered, Away}
use Rattle.mcs_seats.specs.declared.call.Call.{Call}
use Rattle.mcs_seats.specs.declared.call.Turned.{Turned}
use Rattle.mcs_seats.specs.declared.call.Turned.TheVariants as turned

-- a core, and its calls
pub record Seat : Type 0 where
  pub core : CoreId
  pub calls : List Call

-- how many lines an outcome reported
abbrev pub outcome_lines : Outcome → ℕ
outcome_lines (Entered a) = 1
outcome_lines (Away n f) = 0

-- how many lines were reported
abbrev pub count_entered : List Call → ℕ
count_entered [] = 0
count_entered (c ∷ cs) = outcome_lines c.outcome + count_entered cs

-- how many lines were reported to these seats
abbrev pub count_entered_by : List Seat → ℕ
count_entered_by seats = sum_by (λ (s : Seat). count_entered s.calls) seats

-- a seat with one call more
abbrev pub with_call : Seat → ObjId → Entry → Outcome → Seat
with_call s t e o = record s { calls = (record { thread = t; entry = e; outcome = o }) ∷ s.calls }

-- the seat after an entry with this result
abbrev pub noted : Seat → ObjId → Entry → Result Answered Turned → Seat
noted s t e (Ok a) = with_call s t e (Entered a)
noted s t e (Err (turned.Away n f)) = with_call s t e (Away n f)
noted s t e (Err turned.OutOfMemory) = s

-- why an entry has no line: the fault of it, when the book has this many lines
abbrev pub WhyTurned : Book → CoreId → ObjId → Turned → Type 0
WhyTurned b c t (turned.Away n f) = (n ≡ length b.lines + 1) × (fault_of b c t ≡ Some f)
WhyTurned b c t turned.OutOfMemory = Unit {0}

-- an entry of a thread that had this result: the seat keeps what became of it, and the book has its
-- line and gave its answer, or is as it was where it was skipped
pub record Enters (old new : Seat) (before after : Book) (t : ObjId) (e : Entry) (r : Result Answered Turned) : Type 0 where
  pub seat : new ≡ noted old t e r
  pub let_in : OnOk r (fault_of before old.core t ≡ None)
  pub number : IfOk r (λ a. a.line ≡ length before.lines + 1)
  pub line : OnOk r (after ≡ with_entry before old.core t e)
  pub answer : IfOk r (λ a. a.answer ≡ (does (log_of before) old.core t e).answer)
  pub unchanged : OnErr r (after ≡ before)
  pub away : IfErr r (WhyTurned before old.core t)

-- a seat for each core in order, to which nothing was reported
abbrev pub AreNew : List Seat → Type 0
AreNew seats =
    (i : ℕ) (d : Seat) → i < length seats
    → slice_index_or seats i d ≡ record { core = record { 0 = i }; calls = [] }
