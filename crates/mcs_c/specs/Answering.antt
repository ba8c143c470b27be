-- What a step returned, as C has it.
use Rattle.std.specs.Prelude.{◌≡◌, ℕ, List, [], ◌++◌, length, drop, map, take, Option, Some, None, nat_lt, if◌then◌else◌}
use Rattle.mcs_types.specs.declared.id.ObjId.{ObjId}
use Rattle.mcs_types.specs.declared.entry.Answer.{Answer}
use Rattle.mcs_types.specs.declared.entry.Answer.TheVariants as ans
use Rattle.mcs_types.specs.declared.record.Rec.{Rec}
use Rattle.mcs_types.specs.declared.record.Rec.TheVariants as rec
use Rattle.mcs_book.specs.History.{Book, Line, line_of_number}
use Rattle.mcs_text.specs.Spelling.{letter_of, queue_name}
use Rattle.mcs_text.specs.Table.{answer_form}
use Rattle.mcs_c.specs.declared.answers.McsAnswer.{McsAnswer}
use Rattle.mcs_c.specs.declared.answers.McsRecord.{McsRecord}
use Rattle.mcs_c.specs.declared.answers.Brought.{Brought}

-- the number of the kind of an answer
abbrev pub answer_kind : Answer → ℕ
answer_kind ans.Done = 1
answer_kind (ans.Got badge message) = 2
answer_kind (ans.Heard word) = 3
answer_kind ans.Empty = 4
answer_kind ans.Waits = 5
answer_kind (ans.Refused why) = 6

-- the kind of the answer of a line; 0 where a step added none
abbrev pub kind_of : Option Line → ℕ
kind_of None = 0
kind_of (Some l) = answer_kind l.answer

-- the numbers of the answer of a line, in the order of its form
abbrev pub numbers_of : Option Line → List ℕ
numbers_of None = []
numbers_of (Some l) = (answer_form l.answer).numbers

-- the records of a line
abbrev pub records_of : Option Line → List Rec
records_of None = []
records_of (Some l) = l.records

-- the serial of an object, if there is one
abbrev pub serial_of : Option ObjId → ℕ
serial_of None = 0
serial_of (Some o) = o.serial

-- the letter of an object, if there is one
abbrev pub letter_in : Option ObjId → ℕ
letter_in None = 0
letter_in (Some o) = letter_of o.kind

-- a record of this kind, about a thread and another object
abbrev pub about : ℕ → Option ObjId → Option ObjId → McsRecord
about kind thread object = record { kind = kind; thread = serial_of thread; letter = letter_in object; object = serial_of object }

-- a record by its kind, in the order of the table of forms, its thread and its other object
abbrev pub record_of : Rec → McsRecord
record_of (rec.Slot c i cap) = about 1 None (Some c)
record_of (rec.Turns t mode) = about 2 (Some t) None
record_of (rec.Joins t q r) = about 3 (Some t) (Some (queue_name q))
record_of (rec.Parts t q) = about 4 (Some t) (Some (queue_name q))
record_of (rec.Sent t e mode b m) = about 5 (Some t) (Some e)
record_of (rec.Took m t) = about 6 (Some t) None
record_of (rec.Dropped m) = about 7 None None
record_of (rec.Holds s t) = about 8 t (Some s)
record_of (rec.Homed s n) = about 9 None (Some s)
record_of (rec.Prio t p) = about 10 (Some t) None
record_of (rec.Owes r t s) = about 11 (Some t) (Some r)
record_of (rec.Paid r t m) = about 12 (Some t) (Some r)
record_of (rec.Void r t ending) = about 13 (Some t) (Some r)
record_of (rec.Raised n b) = about 14 None (Some n)
record_of (rec.Heard t n w) = about 15 (Some t) (Some n)
record_of (rec.Tied t n) = about 16 (Some t) n
record_of (rec.Made o form) = about 17 None (Some o)
record_of (rec.Closed o) = about 18 None (Some o)

-- an answer in C has the kind and the numbers of a line's answer, and how many records the line has
pub record IsAnswer (l : Option Line) (a : McsAnswer) : Type 0 where
  pub kind : a.kind ≡ kind_of l
  pub count : a.count ≡ length (numbers_of l)
  pub words : take a.count a.words ≡ numbers_of l
  pub records : a.records ≡ length (records_of l)

-- how many lines a book has, if there is one
abbrev pub line_count : Option Book → ℕ
line_count None = 0
line_count (Some b) = length b.lines

-- the newest line of a book that has more lines than so many
abbrev pub newest : ℕ → Option Book → Option Line
newest n None = None
newest n (Some b) = if nat_lt n (length b.lines) then line_of_number b (length b.lines) else None

-- of these as many were written as there was room for, and what follows them is unchanged
abbrev pub FillsWith : {A : Type 0} → (given old new : List A) → Type 0
FillsWith given old new = new ≡ take (length old) given ++ drop (length given) old

-- the answer and the records that a line, or no line, returned
pub record IsBrought (l : Option Line) (b : Brought) : Type 0 where
  pub answer : IsAnswer l b.answer
  pub records : b.records.items ≡ map record_of (records_of l)

-- the answer and the records of a line, or of none, were handed out
pub record Brings (l : Option Line) (answer : McsAnswer) (old new : List McsRecord) : Type 0 where
  pub says : IsAnswer l answer
  pub fills : FillsWith (map record_of (records_of l)) old new
