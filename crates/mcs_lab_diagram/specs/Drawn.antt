-- What is drawn of a book.
use Rattle.std.specs.Prelude.{◌≡◌, List, [], ◌∷◌, Option}
use Rattle.mcs_types.specs.declared.id.ObjId.{ObjId}
use Rattle.mcs_book.specs.Boots.{boot_log}
use Rattle.mcs_book.specs.History.{Book, Line}
use Rattle.mcs_lab_diagram.specs.declared.looks.Look.{Look}
use Rattle.mcs_lab_diagram.specs.Arrows.{Strokes, strokes_of}
use Rattle.mcs_lab_diagram.specs.Looks.{looks_of, looks_before}
use Rattle.mcs_lab_diagram.specs.Picks.{ArePicks, ArePicksBefore}

-- these strokes, looks and picks are those of a book
pub record AreDrawn (s : Strokes) (looked : List Look) (picked : List (Option ObjId)) (b : Book) : Type 0 where
  pub strokes : s ≡ strokes_of b.lines
  pub looks : looked ≡ looks_of (boot_log b.boot.lines) b.lines
  pub picks : ArePicks b.boot.cores (boot_log b.boot.lines) b.lines picked

-- these strokes are those of the lines after the first, which is first here and is the newest; in
-- it this thread enters
abbrev pub IsDrawnBefore : Strokes → ObjId → List Line → Type 0
IsDrawnBefore s t [] = ⊥
IsDrawnBefore s t (l ∷ ls) = (s ≡ strokes_of ls) × (t ≡ l.step.thread)

-- these strokes, looks and picks are those of a book without its last line, in which this thread
-- enters
pub record AreDrawnBefore (s : Strokes) (looked : List Look) (picked : List (Option ObjId)) (t : ObjId) (b : Book) : Type 0 where
  pub strokes : IsDrawnBefore s t b.lines
  pub looks : looked ≡ looks_before (boot_log b.boot.lines) b.lines
  pub picks : ArePicksBefore b.boot.cores (boot_log b.boot.lines) b.lines picked
