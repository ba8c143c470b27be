-- What holds of the lines of each program that was read (own).
use Rattle.std.specs.Prelude.{ℕ, ◌<◌, ◌≤◌, List, length, min}
use Rattle.std.specs.List.{All}
use Rattle.mcs_turns.specs.declared.program.Fill.{Fill}
use Rattle.mcs_turns.specs.declared.program.Op.{Op}
use Rattle.mcs_turns.specs.declared.program.Op.TheVariants as op
use Rattle.mcs_explore_programs.specs.declared.code.ProgramEntry.{ProgramEntry}
use Rattle.mcs_explore_programs.specs.declared.program.Program.{Program}

-- the lines of a program, its entries, and what is filled into their messages
pub record Lines : Type 0 where
  pub ops : List Op
  pub entries : List ProgramEntry
  pub fills : List Fill

-- these lines, with these entries and what is filled into their messages
abbrev pub lines : List Op → List ProgramEntry → List Fill → Lines
lines ops entries fills = record { ops = ops; entries = entries; fills = fills }

-- a line that gives an entry gives one of this many entries
abbrev pub GivesOneOf : ℕ → Op → Type 0
GivesOneOf n (op.Give number) = number < n
GivesOneOf n o = Unit {0}

-- a line that continues elsewhere continues at one of this many lines, or after them
abbrev pub GoesWithin : ℕ → Op → Type 0
GoesWithin n (op.Unless test to) = to ≤ n
GoesWithin n (op.Jump to) = to ≤ n
GoesWithin n o = Unit {0}

-- what is filled in is of one of this many entries
abbrev pub IsOfOneOf : ℕ → Fill → Type 0
IsOfOneOf n f = f.number < n

-- all that lines say of entries they say of some that are there
pub record NameEntries (l : Lines) : Type 0 where
  pub gives : All (GivesOneOf (length l.entries)) l.ops
  pub fills : All (IsOfOneOf (length l.entries)) l.fills

-- the lines of a program: there is an entry, each line that gives one gives one that is there, and
-- continues within the lines or after them
pub record AreLines (l : Lines) : Type 0 where
  pub some : 0 < length l.entries
  pub names : NameEntries l
  pub goes : All (GoesWithin (length l.ops)) l.ops

-- a line that continues after this many lines at the furthest
abbrev pub within : ℕ → Op → Op
within n (op.Unless test to) = op.Unless test (min to n)
within n (op.Jump to) = op.Jump (min to n)
within n o = o

-- those of a program are
abbrev pub IsProgram : Program → Type 0
IsProgram p = AreLines (lines p.ops.items p.entries.items p.fills.items)
