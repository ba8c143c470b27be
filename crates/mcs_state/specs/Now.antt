-- What a state is to its callers: the book, and the records of the line in hand.
use Rattle.std.specs.Prelude.{ℕ, ◌≡◌, ◌++◌, ◌∷◌, List, Option, Some, None}
use Rattle.mcs_types.specs.declared.record.Letter.{Letter}
use Rattle.mcs_types.specs.declared.record.Rec.{Rec}
use Rattle.mcs_book.specs.Logs.{Log, onto}
use Rattle.mcs_book.specs.History.{Book, log_of}

-- the book, the records of the line in hand (the newest first), and the rooms of the book
pub record Now : Type 0 where
  pub book : Book
  pub hand : Log
  pub boot_room : ℕ
  pub room : ℕ

-- all records so far
abbrev pub so_far : Now → Log
so_far n = n.hand ++ log_of n.book

-- one record more
abbrev pub adds : Rec → Now → Now
adds rec n = record n { hand = rec ∷ n.hand }

-- several records more, in order
abbrev pub adds_all : List Rec → Now → Now
adds_all recs n = record n { hand = onto recs n.hand }

-- this is the number of a message, and there is one
abbrev pub IsNumberOf : ℕ → Option Letter → Type 0
IsNumberOf n None = ⊥
IsNumberOf n (Some s) = s.number ≡ n
