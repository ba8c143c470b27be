-- Which threads the arrows join, by the lines of the book and the questions about the log alone.
use Rattle.std.specs.Prelude.{ℕ, ◌==◌, Bool, false, cond, List, [], ◌∷◌, ◌++◌, Option, Some, None, option_map, unwrap_or, is_some, IsTrue}
use Rattle.std.specs.List.{list_any}
use Rattle.mcs_types.specs.declared.id.ObjId.{ObjId}
use Rattle.mcs_types.specs.declared.record.Letter.{Letter}
use Rattle.mcs_types.specs.declared.record.Rec.{Rec}
use Rattle.mcs_types.specs.declared.record.Rec.TheVariants.{Took, Paid, Raised, Heard}
use Rattle.mcs_book.specs.Logs.{Log}
use Rattle.mcs_book.specs.Messages.{letter}
use Rattle.mcs_book.specs.History.{Line, past}
use Rattle.mcs_lab_diagram.specs.declared.arrows.Shown.{Shown}
use Rattle.mcs_lab_diagram.specs.declared.arrows.Shown.TheVariants.{Message, Answer, Word}
use Rattle.mcs_lab_diagram.specs.declared.arrows.Arrow.{Arrow}

-- what an arrow shows, and the threads that it joins
pub record Ends : Type 0 where
  pub shown : Shown
  pub from : ObjId
  pub to : ObjId

-- the ends of an arrow
abbrev pub ends_of : Arrow → Ends
ends_of a = record { shown = a.shown; from = a.from.thread; to = a.to.thread }

-- the sender of message m
abbrev pub sender_of : Log → ℕ → Option ObjId
sender_of R m = option_map (λ (s : Letter). s.sender) (letter R m)

-- whether a record raises the notification of this serial
abbrev pub is_raise : ℕ → Rec → Bool
is_raise serial (Raised n badge) = serial == n.serial
is_raise serial _ = false

-- the thread that entered the newest of these lines in which that notification was raised
abbrev pub raiser_in : ℕ → List Line → Option ObjId
raiser_in serial [] = None
raiser_in serial (l ∷ ls) = cond (list_any (is_raise serial) l.records) (Some l.step.thread) (raiser_in serial ls)

-- which thread raised it last: t, if one of these records of its line did, or else the one in the
-- lines before
abbrev pub raiser_of : ObjId → List Line → List Rec → ℕ → Option ObjId
raiser_of t before made serial = cond (list_any (is_raise serial) made) (Some t) (raiser_in serial before)

-- what a record draws in a line of t after these lines, where the line has made these records
-- before, and R is the log before: a message that is taken leads from its sender to its taker (each
-- was sent, in a fair book), an answer from t to the thread that it reaches, a word from the thread
-- that raised its notification last to the one that receives it, and nothing else is drawn
abbrev pub ends_made : ObjId → List Line → List Rec → Log → Rec → List Ends
ends_made t before made R (Took m p) = (record { shown = Message m; from = unwrap_or (sender_of R m) t; to = p }) ∷ []
ends_made t before made R (Paid r x message) = (record { shown = Answer r; from = t; to = x }) ∷ []
ends_made t before made R (Heard x n word) = (record { shown = Word n; from = unwrap_or (raiser_of t before made n.serial) t; to = x }) ∷ []
ends_made t before made R _ = []

-- what the records of a line of t draw, after these lines and after these records of its own
abbrev pub ends_of_records : ObjId → List Line → List Rec → Log → List Rec → List Ends
ends_of_records t before made R [] = []
ends_of_records t before made R (rec ∷ recs) = ends_made t before made R rec ++ ends_of_records t before (rec ∷ made) (rec ∷ R) recs

-- what lines draw, the newest of which is first
abbrev pub ends_in : Log → List Line → List Ends
ends_in B [] = []
ends_in B (l ∷ ls) = ends_in B ls ++ ends_of_records l.step.thread ls [] (past B ls) l.records

-- a message that is taken has a sender: `ends_made` needs nobody in its place
abbrev pub HasSender : Log → Rec → Type 0
HasSender R (Took m p) = IsTrue (is_some (sender_of R m))
HasSender R _ = Unit {0}
