-- How a seat relates to a book.
use Rattle.std.specs.Prelude.{ℕ, true, false, ◌≡◌, ◌≢◌, ◌+◌, ◌-◌, ◌≤◌, ◌<◌, ◌==◌, ◌⊎◌, if◌then◌else◌, List, [], ◌∷◌, ◌++◌, length, take, drop, reverse, Option, Some, None, slice_index_or}
use Rattle.std.specs.List.{list_any}
use Rattle.mcs_types.specs.declared.id.CoreId.{CoreId}
use Rattle.mcs_types.specs.declared.id.ObjId.{ObjId}
use Rattle.mcs_types.specs.declared.entry.Entry.{Entry}
use Rattle.mcs_types.specs.declared.entry.Step.{Step}
use Rattle.mcs_types.specs.declared.entry.Answer.{Answer}
use Rattle.mcs_book.specs.Boots.{Boot}
use Rattle.mcs_book.specs.History.{Book, Line, IsLegal}
use Rattle.mcs_kernel.specs.Faults.{fault_of}
use Rattle.mcs_seats.specs.Seats.{Seat, count_entered_by}
use Rattle.mcs_seats.specs.declared.call.Outcome.{Outcome}
use Rattle.mcs_seats.specs.declared.call.Outcome.TheVariants.{Entered, Away}
use Rattle.mcs_seats.specs.declared.call.Answered.{Answered}
use Rattle.mcs_seats.specs.declared.call.Call.{Call}
use Rattle.mcs_seats.specs.declared.settle.FinishFault.{FinishFault}
use Rattle.mcs_seats.specs.declared.settle.FinishFault.TheVariants.{MissingSeat, OtherBoot, Torn, OutOfMemory}

-- what is reported to a core about a line: its number, the thread, the entry and the answer
pub record Note : Type 0 where
  pub line : ℕ
  pub thread : ObjId
  pub entry : Entry
  pub answer : Answer

-- what a call with this answer reported to it
abbrev pub entered_note : Call → Answered → Note
entered_note x a = record { line = a.line; thread = x.thread; entry = x.entry; answer = a.answer }

-- what is reported to it about a line of this number, step and answer
abbrev pub noted_line : ℕ → Step → Answer → Note
noted_line n s a = record { line = n; thread = s.thread; entry = s.entry; answer = a }

-- what is reported to it about the line of this number
abbrev pub note_of : ℕ → Line → Note
note_of n l = noted_line n l.step l.answer

-- the same, where the line is its own
abbrev pub own_note : CoreId → ℕ → Line → List Note
own_note c n l = if l.step.core.0 == c.0 then note_of n l ∷ [] else []

-- what is reported to it about lines, of which the first has this number
abbrev pub notes_of_lines : CoreId → ℕ → List Line → List Note
notes_of_lines c n [] = []
notes_of_lines c n (l ∷ ls) = own_note c n l ++ notes_of_lines c (n + 1) ls

-- what is reported to it about a book from the line of number n on
abbrev pub notes_from : Book → CoreId → ℕ → List Note
notes_from b c n = notes_of_lines c n (drop (n - 1) (reverse b.lines))

-- what is reported to it about a whole book
abbrev pub notes_of : Book → CoreId → List Note
notes_of b c = notes_from b c 1

-- the book when it had n lines after the boot
abbrev pub cut : Book → ℕ → Book
cut b n = record b { lines = reverse (take n (reverse b.lines)) }

-- the next of these notes
abbrev pub next_note : List Note → Option Note
next_note [] = None
next_note (n ∷ ns) = Some n

-- the number of the next line, or how many lines the book has
abbrev pub next_line : Book → List Note → ℕ
next_line b [] = length b.lines + 1
next_line b (n ∷ ns) = n.line

-- the notes after the next one
abbrev pub later_notes : List Note → List Note
later_notes [] = []
later_notes (n ∷ ns) = ns

-- a call with this outcome is right, where these notes are still to be reported to the core and the
-- book had at least this many lines: it reported the next line, or was skipped rightly before that
-- line came
abbrev pub IsRightAt : Book → CoreId → List Note → ℕ → Call → Outcome → Type 0
IsRightAt b c notes lines x (Entered a) = next_note notes ≡ Some (entered_note x a)
IsRightAt b c notes lines x (Away n f) = (lines ≤ n) × (n ≤ next_line b notes) × (fault_of (cut b (n - 1)) c x.thread ≡ Some f)

-- the same, of what became of it
abbrev pub IsRight : Book → CoreId → List Note → ℕ → Call → Type 0
IsRight b c notes lines x = IsRightAt b c notes lines x x.outcome

-- the notes that it is told after the call
abbrev pub notes_after : Outcome → List Note → List Note
notes_after (Entered a) notes = later_notes notes
notes_after (Away n f) notes = notes

-- how many lines the book had then
abbrev pub lines_after : Outcome → ℕ
lines_after (Entered a) = a.line + 1
lines_after (Away n f) = n

-- calls, the oldest first, are right one after another, and no more is reported to the core
abbrev pub AreRight : Book → CoreId → List Note → ℕ → List Call → Type 0
AreRight b c notes lines [] = notes ≡ []
AreRight b c notes lines (x ∷ xs) =
    IsRight b c notes lines x × AreRight b c (notes_after x.outcome notes) (lines_after x.outcome) xs

-- the n-th of these calls is the first that is not right; or all are, n is one more than they are,
-- and more is reported to the core
abbrev pub IsTornAt : Book → CoreId → List Note → ℕ → List Call → ℕ → Type 0
IsTornAt b c notes lines [] n = (n ≡ 1) × (notes ≢ [])
IsTornAt b c notes lines (x ∷ xs) n =
    ((n ≡ 1) × (¬ (IsRight b c notes lines x)))
    ⊎ (IsRight b c notes lines x × IsTornAt b c (notes_after x.outcome notes) (lines_after x.outcome) xs (n - 1) × (1 < n))

-- what an outcome reported
abbrev pub outcome_notes : Call → Outcome → List Note
outcome_notes x (Entered a) = entered_note x a ∷ []
outcome_notes x (Away n f) = []

-- what calls reported, the oldest first
abbrev pub entered_notes : List Call → List Note
entered_notes [] = []
entered_notes (x ∷ xs) = outcome_notes x x.outcome ++ entered_notes xs

-- the entry and the answer of a note, as those of a line of this core
abbrev pub entered_entry : CoreId → Note → Step × Answer
entered_entry c n = (record { core = c; thread = n.thread; entry = n.entry }, n.answer)

-- the entry and the answer of a line
abbrev pub entry_of : Line → Step × Answer
entry_of l = (l.step, l.answer)

-- a seat received the reports of its core's lines and of no others, in order, with their numbers
-- and answers, and was skipped rightly
abbrev pub Agrees : Book → Seat → Type 0
Agrees b s = AreRight b s.core (notes_of b s.core) 1 (reverse s.calls)

-- its n-th call is the first that does not agree with the book
abbrev pub IsTorn : Book → Seat → ℕ → Type 0
IsTorn b s n = IsTornAt b s.core (notes_of b s.core) 1 (reverse s.calls) n

-- each seat agrees with the book
abbrev pub AllAgree : Book → List Seat → Type 0
AllAgree b seats = (i : ℕ) (d : Seat) → i < length seats → Agrees b (slice_index_or seats i d)

-- each core has a seat
abbrev pub HasSeats : Book → List Seat → Type 0
HasSeats b seats = (c : ℕ) → c < b.boot.cores → list_any (λ s. s.core.0 == c) seats ≡ true

-- where no core lacks a seat, the seats were told as many lines as the book has after the boot
abbrev pub AreCounted : Book → List Seat → Type 0
AreCounted b seats = HasSeats b seats → count_entered_by seats ≡ length b.lines

-- a seat of this core whose n-th call does not agree
pub record HasTorn (b : Book) (seats : List Seat) (c : CoreId) (n : ℕ) : Type 0 where
  pub place : ℕ
  pub seat : Seat
  pub few : place < length seats
  pub is : seat ≡ slice_index_or seats place seat
  pub core : seat.core ≡ c
  pub torn : IsTorn b seat n

-- a core of the boot has no seat
pub record LacksSeat (b : Book) (seats : List Seat) : Type 0 where
  pub core : ℕ
  pub first : core < b.boot.cores
  pub none : list_any (λ s. s.core.0 == core) seats ≡ false

-- a book, and a seat that agrees with it
pub record Agreement : Type 0 where
  pub book : Book
  pub seat : Seat
  pub agrees : Agrees book seat

-- why a book is not settled by these seats, where this boot was given
abbrev pub Because : Book → Boot → List Seat → FinishFault → Type 0
Because b boot seats MissingSeat = LacksSeat b seats
Because b boot seats OtherBoot = HasSeats b seats × (b.boot ≢ boot)
Because b boot seats (Torn c n) = HasSeats b seats × (b.boot ≡ boot) × HasTorn b seats c n
Because b boot seats OutOfMemory = Unit {0}

-- there is a legal book of as many lines as these seats were told, which they do not settle for
-- this reason
pub record HasReason (boot : Boot) (seats : List Seat) (f : FinishFault) : Type 0 where
  pub book : Book
  pub legal : IsLegal book
  pub counted : AreCounted book seats
  pub because : Because book boot seats f
