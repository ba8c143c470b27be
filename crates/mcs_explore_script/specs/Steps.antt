-- The steps of a book as a script (own).
use Rattle.std.specs.Prelude.{ℕ, List, ◌++◌, reverse}
use Rattle.std.specs.List.{flat_map}
use Rattle.mcs_book.specs.History.{Book, Line}
use Rattle.mcs_text.specs.Table.{answer_text, cores_text, step_text}
use Rattle.mcs_sim.specs.Trace.{boot_lines_trace}

-- a line of a book as a step of a script, and its answer
abbrev pub step_lines : Line → List ℕ
step_lines l = step_text l.step ++ answer_text l.answer

-- the boot of a book, and its steps with their answers
unfoldable pub script_text : Book → List ℕ
script_text b = cores_text b.boot.cores ++ boot_lines_trace (reverse b.boot.lines) ++ flat_map step_lines (reverse b.lines)
