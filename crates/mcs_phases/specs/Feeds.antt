-- A replay that continues: line by line, and byte by byte.
use Rattle.std.specs.Prelude.{◌≡◌, ◌≢◌, ◌⊎◌, ℕ, ◌+◌, ◌<◌, slice_index, Bool, List, [], ◌∷◌, ◌++◌, length, Option, Some, None, Result, Ok, Err, nat_lt, ◌==◌, if◌then◌else◌}
use Rattle.mcs_types.specs.declared.entry.Step.{Step}
use Rattle.mcs_types.specs.declared.limits.TheConstants.{SCRIPT_LINES, SCRIPT_LINE_BYTES}
use Rattle.mcs_book.specs.Boots.{Boot}
use Rattle.mcs_book.specs.History.{Book, IsLegal, with_step}
use Rattle.mcs_book.specs.Fair.{IsFair}
use Rattle.mcs_kernel.specs.Faults.{fault_of}
use Rattle.mcs_kernel.specs.Runs.{is_book_full}
use Rattle.mcs_text.specs.declared.fault.LineFault.{LineFault}
use Rattle.mcs_text.specs.declared.fault.LineFault.TheVariants as why
use Rattle.mcs_text.specs.declared.key.Key.{Key}
use Rattle.mcs_text.specs.Keys.{boot_key}
use Rattle.mcs_text.specs.Reading.{◌>>=◌, words_of, step_of}
use Rattle.mcs_phases.specs.declared.fault.SimFault.{SimFault}
use Rattle.mcs_phases.specs.declared.fault.SimFault.TheVariants as fault
use denote.Ref.{Bor}
use Rattle.mcs_book.specs.Pages.{Written}
use Rattle.mcs_phases.specs.Script.{Script, of_steps, threads_of, says_something, read_line}

-- how many lines a script may have, and how many bytes a line
abbrev pub line_count_limit : ℕ
line_count_limit = SCRIPT_LINES

abbrev pub line_length_limit : ℕ
line_length_limit = SCRIPT_LINE_BYTES

-- ---- one line

-- the boot so far, until it has ended, and from then on the book
pub record BootOrBook : Type 0 where
  pub boot : Option Boot
  pub book : Option Book

-- before the first line
abbrev pub not_begun : BootOrBook
not_begun = record { boot = None; book = None }

-- the book of a boot alone
abbrev pub begun_by : Boot → Book
begun_by b = record { boot = b; lines = [] }

-- a book with one step more: it is full for it, or has its line where it is accepted
unfoldable pub stepped : Book → Step → Result Book SimFault
stepped k s = if is_book_full (fault_of k s.core s.thread) then Err fault.BookFull else Ok (with_step k s)

-- the step that a line after the boot says, where its first word has this key of a boot
abbrev pub behind_boot : Option Key → Result Step LineFault → Result (Option Step) LineFault
behind_boot (Some key) step = Err why.LateBoot
behind_boot None step = step >>= λ s. Ok (Some s)

-- the same of a line that is not skipped, by its words
abbrev pub step_spelled : ℕ → ℕ → List ℕ → List (List ℕ) → Result (Option Step) LineFault
step_spelled cores threads line [] = Err why.Form
step_spelled cores threads line (w ∷ ws) = behind_boot (boot_key w) (step_of cores threads line)

-- the step that the line of this number says, where it is not skipped, after a boot with this many
-- cores and threads
unfoldable pub step_line : ℕ → ℕ → ℕ → List ℕ → Result (Option Step) LineFault
step_line cores threads number line = says_something number line >>= λ says. if says then step_spelled cores threads line (words_of line) else Ok None

-- the step that a line says, where it says one
abbrev pub said : Bool → Step → Option Step
said says s = if says then Some s else None

-- what was read of the line of this number
abbrev pub read_at : {X : Type 0} → ℕ → Result X LineFault → Result X SimFault
read_at number (Ok x) = Ok x
read_at number (Err e) = Err (fault.Script number e)

-- what is after that, where it is
abbrev pub stands : Option Boot → Result Book SimFault → Result BootOrBook SimFault
stands boot (Ok k) = Ok (record { boot = boot; book = Some k })
stands boot (Err e) = Err e

-- what is once a script has this boot and these steps, before which it had none: the first step
-- ends the boot
abbrev pub opened : Option Boot → List Step → Result BootOrBook SimFault
opened boot [] = Ok (record { boot = boot; book = None })
opened None (s ∷ ss) = Ok not_begun
opened (Some b) (s ∷ ss) = stands None (stepped (begun_by b) s)

-- what is after a line while the boot continues, by what was read of it
abbrev pub after_boot_line : Result (Script Step) SimFault → Result BootOrBook SimFault
after_boot_line (Ok t) = opened t.boot t.items
after_boot_line (Err e) = Err e

-- the book after a line after the boot, by what was read of it
abbrev pub after_step : Book → Result (Option Step) SimFault → Result Book SimFault
after_step k (Ok None) = Ok k
after_step k (Ok (Some s)) = stepped k s
after_step k (Err e) = Err e

-- the book after the line of this number, after the boot
unfoldable pub book_after : Book → ℕ → List ℕ → Result Book SimFault
book_after k number line = after_step k (read_at number (step_line k.boot.cores (threads_of k.boot) number line))

-- what is after the line of this number, where the book was this one, if the boot had ended
abbrev pub after_line_on : BootOrBook → Option Book → ℕ → List ℕ → Result BootOrBook SimFault
after_line_on s None number line = after_boot_line (read_at number (read_line of_steps (record { boot = s.boot; items = [] }) number line))
after_line_on s (Some k) number line = stands s.boot (book_after k number line)

-- what is after the line of this number
unfoldable pub after_line : BootOrBook → ℕ → List ℕ → Result BootOrBook SimFault
after_line s number line = after_line_on s s.book number line

-- ---- line by line

-- what a replay holds between two lines: what is, and how many lines there were; and after a fault
-- that fault, and nothing else but the book
pub record Course : Type 0 where
  pub stands : BootOrBook
  pub lines : ℕ
  pub fault : Option SimFault

-- a replay of no line
abbrev pub no_line : Course
no_line = record { stands = not_begun; lines = 0; fault = None }

-- a replay that a fault ended
abbrev pub ended_by : SimFault → Course → Course
ended_by e c = record { stands = record { boot = None; book = c.stands.book }; lines = 0; fault = Some e }

-- a replay that a fault of its next line ended
abbrev pub refused_for : LineFault → Course → Course
refused_for e c = ended_by (fault.Script (c.lines + 1) e) c

-- a line more, by what is after it
abbrev pub past_line : Course → Result BootOrBook SimFault → Course
past_line c (Ok s) = record { stands = s; lines = c.lines + 1; fault = None }
past_line c (Err e) = ended_by e c

-- a line more
unfoldable pub with_line : Course → List ℕ → Course
with_line c line = past_line c (after_line c.stands (c.lines + 1) line)

-- what is at the end of the input, where this is the number of the line that would follow: the boot
-- has ended, if no step ended it
abbrev pub after_end_on : BootOrBook → Option Book → Option Boot → ℕ → Result BootOrBook SimFault
after_end_on s (Some k) boot number = Ok s
after_end_on s None (Some b) number = Ok (record { boot = None; book = Some (begun_by b) })
after_end_on s None None number = Err (fault.Script number why.NoCores)

unfoldable pub after_end : BootOrBook → ℕ → Result BootOrBook SimFault
after_end s number = after_end_on s s.book s.boot number

-- the boot has ended, by what is then
abbrev pub past_boot : Course → Result BootOrBook SimFault → Course
past_boot c (Ok s) = record { stands = s; lines = c.lines; fault = None }
past_boot c (Err e) = ended_by e c

-- after the last line, where this fault ended the replay before, if one did
abbrev pub boot_ended_after : Course → Option SimFault → Course
boot_ended_after c None = past_boot c (after_end c.stands (c.lines + 1))
boot_ended_after c (Some e) = c

-- after the last line
unfoldable pub boot_ended : Course → Course
boot_ended c = boot_ended_after c c.fault

-- ---- byte by byte

-- what a replay holds between two bytes: beside the lines that have ended the bytes of the one that
-- has not, unless a fault ended it
pub record FeedState : Type 0 where
  pub course : Course
  pub line : List ℕ

-- where a line begins
abbrev pub at_line : Course → FeedState
at_line c = record { course = c; line = [] }

-- a byte more that is no newline: it may begin a line too many, or be one too many in its line
abbrev pub with_part : FeedState → ℕ → FeedState
with_part g b = if nat_lt line_count_limit (g.course.lines + 1) then at_line (refused_for why.ManyLines g.course)
    else (if nat_lt line_length_limit (length g.line + 1) then at_line (refused_for why.LongLine g.course) else record g { line = g.line ++ b ∷ [] })

-- a byte more, where no fault ended the replay
abbrev pub with_next : FeedState → ℕ → FeedState
with_next g b = if b == 10 then at_line (with_line g.course g.line) else with_part g b

-- a byte more, where this fault ended it, if one did
abbrev pub with_byte : FeedState → Option SimFault → ℕ → FeedState
with_byte g None b = with_next g b
with_byte g (Some e) b = g

-- bytes more
unfoldable pub fed : FeedState → List ℕ → FeedState
fed g [] = g
fed g (b ∷ bs) = fed (with_byte g g.course.fault b) bs

-- with a last line, which has no newline and may not be there
abbrev pub with_last : Course → List ℕ → Course
with_last c [] = c
with_last c (b ∷ bs) = with_line c (b ∷ bs)

-- the end of the input, where this fault ended the replay before, if one did
abbrev pub at_end : FeedState → Option SimFault → Course
at_end g None = boot_ended (with_last g.course g.line)
at_end g (Some e) = g.course

-- the end of the input
unfoldable pub ended : FeedState → Course
ended g = at_end g g.course.fault

-- ---- what the calls answer

-- what a call returned, seen by view, is the result, unless memory was refused
abbrev pub ComesOf : {X Y : Type 0} → (X → Y) → Result X SimFault → Result Y SimFault → Type 0
ComesOf view (Ok x) out = out ≡ Ok (view x)
ComesOf view (Err fault.OutOfMemory) out = Unit {0}
ComesOf view (Err e) out = out ≡ Err e

-- the answer of a replay that this fault ended, if one did
abbrev pub answer_of : Option SimFault → Result (Unit {0}) SimFault
answer_of None = Ok tt
answer_of (Some e) = Err e

-- a line was taken, unless memory was refused
abbrev pub TakesLine : (old : Course) (line : List ℕ) (new : Course) → Type 0
TakesLine old line new = (new ≡ with_line old line) ⊎ (new ≡ ended_by fault.OutOfMemory old)

-- memory was refused at one of these bytes: the book is that of the lines before
pub record IsRefusedIn (bytes : List ℕ) (old new : FeedState) : Type 0 where
  pub before : List ℕ
  pub after : List ℕ
  pub split : bytes ≡ before ++ after
  pub goes : (fed old before).course.fault ≡ None
  pub stopped : new ≡ at_line (ended_by fault.OutOfMemory (fed old before).course)

-- bytes were taken, unless memory was refused at one of them
abbrev pub Takes : (old : FeedState) (bytes : List ℕ) (new : FeedState) → Type 0
Takes old bytes new = (new ≡ fed old bytes) ⊎ IsRefusedIn bytes old new

-- the boot was ended, unless memory was refused
abbrev pub EndsBoot : (old new : Course) → Type 0
EndsBoot old new = (new ≡ boot_ended old) ⊎ ((old.stands.book ≡ None) × (new ≡ ended_by fault.OutOfMemory old))

-- the end of the input was taken, unless memory was refused
abbrev pub TakesEnd : (old new : FeedState) → Type 0
TakesEnd old new = (new ≡ at_line (ended old)) ⊎ ((old.course.fault ≡ None) × (new ≡ at_line (ended_by fault.OutOfMemory old.course)))

-- a piece was taken, or the end of the input where it is empty
abbrev pub TakesPiece : (old : FeedState) (piece : List ℕ) (new : FeedState) → Type 0
TakesPiece old [] new = TakesEnd old new
TakesPiece old (b ∷ bs) new = Takes old (b ∷ bs) new

-- the book, if there is one, is legal and fair
abbrev pub IsFairBook : Option Book → Type 0
IsFairBook None = Unit {0}
IsFairBook (Some b) = IsLegal b × IsFair b

-- the book that is lent
abbrev pub book_lent : Option (Bor Written) → Option Book
book_lent None = None
book_lent (Some b) = Some b.now.book

-- no byte of this text is a newline
abbrev pub HasNoNewline : List ℕ → Type 0
HasNoNewline text = (k : ℕ) → k < length text → slice_index text k ≢ 10

-- the first, unless a fault ended the replay
abbrev pub unless : {X : Type 0} → Option SimFault → X → X → X
unless None x gone = x
unless (Some e) x gone = gone

-- a replay between two bytes, by its fields
abbrev pub feed_state_of : Option SimFault → BootOrBook → ℕ → List ℕ → FeedState
feed_state_of f s lines line = record {
  course = record { stands = record { boot = unless f s.boot None; book = s.book }; lines = unless f lines 0; fault = f };
  line = unless f line [];
}
