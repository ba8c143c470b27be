-- How a book is kept: the records of all lines side by side, and where each line ends, over what
-- was packed.
use Rattle.std.specs.Prelude.{ℕ, zero, suc, ◌≡◌, ◌≤◌, ◌<◌, ◌+◌, ◌-◌, ◌*◌, ◌^◌, List, [], ◌∷◌, take, drop, Vec, vec_len, vec_capacity}
use Rattle.mcs_types.specs.declared.record.Rec.{Rec}
use Rattle.mcs_types.specs.declared.entry.Step.{Step}
use Rattle.mcs_packing.specs.declared.arena.Arena.{Arena}
use Rattle.mcs_packing.specs.declared.entries.PackedEntry.{PackedEntry}
use Rattle.mcs_packing.specs.declared.heads.Head.{Head}
use Rattle.mcs_packing.specs.declared.heads.PackedAnswer.{PackedAnswer}
use Rattle.mcs_packing.specs.declared.packed.Packed.{Packed}
use Rattle.mcs_packing.specs.Packing.{MOST_FAR, records_of}
use Rattle.mcs_packing.specs.Heads.{Entered, all_entered}
use Rattle.mcs_book.specs.Logs.{Log}
use Rattle.mcs_book.specs.History.{Line, Book}
use Rattle.mcs_book.specs.declared.book.TheConstants.{MOST_WORDS}

-- a book, the records of the line that is open (the newest first), how many more lines its boot has
-- room for, and the room that is left in the open line: room 0 has no room, and room n + 1 has room
-- for n more records and the head of the line
pub record Written : Type 0 where
  pub book : Book
  pub hand : Log
  pub boot_room : ℕ
  pub room : ℕ

-- the lists have room for this many records, of MOST_WORDS words each, and for as many heads, at
-- places that can be named
pub record HasSpace {Z : Type 0} (hs : Vec Head Z) (ps : Vec Packed Z) (a : Arena) (n : ℕ) : Type 0 where
  pub heads : vec_len hs + n ≤ vec_capacity hs
  pub packed : vec_len ps + n ≤ vec_capacity ps
  pub words : vec_len a.words + MOST_WORDS * n ≤ vec_capacity a.words
  pub wide : vec_len a.wide + n ≤ vec_capacity a.wide
  pub named : vec_len ps + n < 2 ^ 32
  pub named_words : vec_len a.words + MOST_WORDS * n ≤ MOST_FAR
  pub named_wide : vec_len a.wide + n ≤ 2 ^ 32

-- the lines that the entries cut from the records that begin at a position, the oldest first
abbrev pub cut : ℕ → List Entered → List Rec → List Line
cut start [] rs = []
cut start (h ∷ hs) rs = record { step = h.step; answer = h.answer; records = take (h.end - start) rs } ∷ cut h.end hs (drop (h.end - start) rs)

-- the lines of what was packed, the oldest first
abbrev pub lines_of : List Head → List Packed → List ℕ → List Rec → List Line
lines_of hs ps ws rs = cut 0 (all_entered hs ws) (records_of ps ws rs)

-- the records that were packed, the oldest first
abbrev pub facts : List Packed → Arena → List Rec
facts ps a = records_of ps a.words.items a.wide.items

-- the ends rise from a position to the number of records
abbrev pub EndsRise : ℕ → List Entered → ℕ → Type 0
EndsRise start [] n = start ≡ n
EndsRise start (h ∷ hs) n = (start ≤ h.end) × EndsRise h.end hs n

-- the ends rise, and the last is not beyond the number of records
pub record EndsWithin (hs : List Entered) (n : ℕ) : Type 0 where
  pub end : ℕ
  pub rise : EndsRise 0 hs end
  pub within : end ≤ n

-- where the records of an entry begin: at the position, or where those of the entry before it end
abbrev pub start_at : ℕ → List Entered → ℕ → ℕ
start_at start hs zero = start
start_at start [] (suc i) = start
start_at start (h ∷ hs) (suc i) = start_at h.end hs i

-- the head of a line: who entered on which core, the entry and the answer as they were packed, and
-- where its records end
abbrev pub line_head : Step → PackedEntry → PackedAnswer → ℕ → Head
line_head s entry answer end = record { entry = entry; end = end; serial = s.thread.serial; answer_at = answer.at; answer = answer.form; kind = s.thread.kind; core = s.core }
