-- What an operation claims: its answer, and the records that it adds.
use Rattle.std.specs.Prelude.{◌≡◌, ◌<◌, ◌+◌, length, List, Ok, Err}
use Rattle.mcs_types.specs.declared.id.ObjId.{ObjId}
use Rattle.mcs_types.specs.declared.id.CoreId.{CoreId}
use Rattle.mcs_types.specs.declared.record.Rec.{Rec}
use Rattle.mcs_types.specs.declared.entry.Answer.{Answer}
use Rattle.mcs_types.specs.declared.entry.Answer.TheVariants.{Done, Refused}
use Rattle.mcs_book.specs.Checks.{Checked}
use Rattle.mcs_types.specs.declared.entry.Entry.{Entry}
use Rattle.mcs_book.specs.Pieces.{Piece, Act, Outcome, before}
use Rattle.mcs_book.specs.Table.{does, wakes}
use Rattle.mcs_book.specs.Threads.{mode_of}
use Rattle.mcs_state.specs.Now.{Now, so_far, adds_all}

-- the outcome was answered, and its records are made
pub record Gives (outcome : Outcome) (old : Now) (said : Answer) (new : Now) : Type 0 where
  pub records : new ≡ adds_all outcome.records old
  pub answer : said ≡ outcome.answer

-- the hand has room for this many records
abbrev pub Holds : List Rec → Now → Type 0
Holds records n = length records + length n.hand < n.room

-- a piece made its records
abbrev pub Makes : Piece → Now → Now → Type 0
Makes piece old new = new ≡ adds_all (piece (so_far old)) old

-- the hand has room for a piece's records
abbrev pub HasRoomFor : Piece → Now → Type 0
HasRoomFor piece n = Holds (piece (so_far n)) n

-- an act did what it does
abbrev pub Acts : Act → Now → Answer → Now → Type 0
Acts act old answer new = Gives (act (so_far old)) old answer new

-- the hand has room for an act's records
abbrev pub FitsAct : Act → Now → Type 0
FitsAct act n = Holds (act (so_far n)).records n

-- an act did what it does, after its thread woke
abbrev pub ActsAwake : ObjId → Act → Now → Answer → Now → Type 0
ActsAwake t act old answer new = Acts (before (wakes (mode_of (so_far old) t) t) act) old answer new

-- the hand has room for the records of an act and of its thread that wakes
abbrev pub FitsAwake : ObjId → Act → Now → Type 0
FitsAwake t act n = FitsAct (before (wakes (mode_of (so_far n) t) t) act) n

-- an entry did what its row says
abbrev pub Does : Now → CoreId → ObjId → Entry → Answer → Now → Type 0
Does old core t entry answer new = Gives (does (so_far old) core t entry) old answer new

-- the hand has room for an entry's records
abbrev pub Fits : Now → CoreId → ObjId → Entry → Type 0
Fits old core t entry = Holds (does (so_far old) core t entry).records old

-- what is answered where an entry is done or refused
abbrev pub plain_answer : Checked (Unit {0}) → Answer
plain_answer (Ok _) = Done
plain_answer (Err why) = Refused why
