-- The arrows of a picture: one for each message that was taken, each answer and each word that was
-- heard, in their order.
use Rattle.std.specs.Prelude.{ℕ, zero, suc, ◌+◌, List, [], ◌∷◌, ◌++◌, Option, Some, None, length, slice_get, unwrap_or}
use Rattle.mcs_types.specs.declared.id.ObjId.{ObjId}
use Rattle.mcs_types.specs.declared.record.Rec.{Rec}
use Rattle.mcs_types.specs.declared.record.Rec.TheVariants.{Sent, Took, Paid, Raised, Heard}
use Rattle.mcs_book.specs.History.{Line}
use Rattle.mcs_lab_diagram.specs.declared.arrows.Point.{Point}
use Rattle.mcs_lab_diagram.specs.declared.arrows.Shown.{Shown}
use Rattle.mcs_lab_diagram.specs.declared.arrows.Shown.TheVariants.{Message, Answer, Word}
use Rattle.mcs_lab_diagram.specs.declared.arrows.Arrow.{Arrow}

-- where messages were sent from, the first first, where notifications were raised last, by their
-- serials, and the arrows so far
pub record Strokes : Type 0 where
  pub sent : List Point
  pub raised : List (Option Point)
  pub arrows : List Arrow

-- before the first line
abbrev pub no_strokes : Strokes
no_strokes = record { sent = []; raised = []; arrows = [] }

-- a thread in the row of a point
abbrev pub beside : Point → ObjId → Point
beside here t = record { row = here.row; thread = t }

-- where message m was sent from
abbrev pub start_of : Strokes → Point → ℕ → Point
start_of s here m = unwrap_or (slice_get s.sent m) here

-- where notifications were raised last, with that of a serial raised here
abbrev pub raised_with : List (Option Point) → ℕ → Point → List (Option Point)
raised_with [] zero here = Some here ∷ []
raised_with [] (suc n) here = None ∷ raised_with [] n here
raised_with (p ∷ ps) zero here = Some here ∷ ps
raised_with (p ∷ ps) (suc n) here = p ∷ raised_with ps n here

-- a raise more
abbrev pub with_raise : Strokes → ObjId → Point → Strokes
with_raise s n here = record s { raised = raised_with s.raised n.serial here }

-- the point that is kept; this one where none is
abbrev pub point_or : Point → Option (Option Point) → Point
point_or here (Some (Some p)) = p
point_or here (Some None) = here
point_or here None = here

-- where notification n was raised last
abbrev pub raise_of : Strokes → Point → ObjId → Point
raise_of s here n = point_or here (slice_get s.raised n.serial)

-- an arrow more
abbrev pub with_arrow : Strokes → Shown → Point → Point → Strokes
with_arrow s shown from to = record s { arrows = s.arrows ++ (record { shown = shown; from = from; to = to }) ∷ [] }

-- a record more, in a row in which the thread `here` enters: a message leads from its sender to its
-- taker, an answer from the entering thread to the thread that it reaches, and a word from the
-- thread that raised its notification last to the one that receives it
abbrev pub with_record : Point → Strokes → Rec → Strokes
with_record here s (Sent x e mode badge message) = record s { sent = s.sent ++ beside here x ∷ [] }
with_record here s (Took m p) = with_arrow s (Message m) (start_of s here m) (beside here p)
with_record here s (Paid r x message) = with_arrow s (Answer r) here (beside here x)
with_record here s (Raised n badge) = with_raise s n here
with_record here s (Heard x n word) = with_arrow s (Word n) (raise_of s here n) (beside here x)
with_record here s _ = s

-- records more, in the row of an entry
abbrev pub with_records : Point → Strokes → List Rec → Strokes
with_records here s [] = s
with_records here s (rec ∷ recs) = with_records here (with_record here s rec) recs

-- the row of a line: its number, and the entering thread
abbrev pub row_of : ℕ → Line → Point
row_of number l = record { row = number; thread = l.step.thread }

-- the strokes of lines, the newest of which is first
abbrev pub strokes_of : List Line → Strokes
strokes_of [] = no_strokes
strokes_of (l ∷ ls) = with_records (row_of (length ls + 1) l) (strokes_of ls) l.records
