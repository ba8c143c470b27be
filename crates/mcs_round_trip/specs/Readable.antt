-- Books whose traces are scripts.
use Rattle.std.specs.Prelude.{◌≤◌, length}
use Rattle.mcs_book.specs.History.{Book, IsLegal}
use Rattle.mcs_text.specs.Reading.{lines_of}
use Rattle.mcs_sim.specs.Trace.{trace}

-- a legal book whose trace has no more lines than a script may have
pub record IsReadable (b : Book) : Type 0 where
  pub legal : IsLegal b
  pub short : length (lines_of (trace b)) ≤ 2000000
