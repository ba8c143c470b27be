-- One line more: after a log, and after a book.
use Rattle.std.specs.Prelude.{◌∷◌}
use Rattle.mcs_types.specs.declared.id.CoreId.{CoreId}
use Rattle.mcs_types.specs.declared.id.ObjId.{ObjId}
use Rattle.mcs_types.specs.declared.entry.Entry.{Entry}
use Rattle.mcs_types.specs.declared.entry.Step.{Step}
use Rattle.mcs_book.specs.Logs.{Log, onto}
use Rattle.mcs_book.specs.Pieces.{Outcome}
use Rattle.mcs_book.specs.Table.{does}
use Rattle.mcs_book.specs.History.{Line, Book, log_of, line_for}

-- the log after an entry of a thread on a core
abbrev pub after_entry : Log → CoreId → ObjId → Entry → Log
after_entry R core t entry = onto (does R core t entry).records R

-- a book with one line more
abbrev pub with_one : Line → Book → Book
with_one l b = record b { lines = l ∷ b.lines }

-- the line of a step after a book
abbrev pub line_in : Book → Step → Line
line_in b step = line_for step (does (log_of b) step.core step.thread step.entry)

-- the outcome of a line
abbrev pub outcome_of : Line → Outcome
outcome_of l = record { answer = l.answer; records = l.records }
