-- The lists of users, from text that comes in pieces.
use Rattle.std.specs.Prelude.{◌≡◌, ◌⊎◌, ◌<◌, ◌≤◌, ◌*◌, ℕ, ◌+◌, List, [], ◌∷◌, ◌++◌, length, Option, Some, Result, Err}
use Rattle.mcs_types.specs.declared.limits.TheConstants.{SCRIPT_LINES, SCRIPT_LINE_BYTES}
use Rattle.mcs_text.specs.declared.fault.LineFault.{LineFault}
use Rattle.mcs_text.specs.declared.steps.UserEntry.{UserEntry}
use Rattle.mcs_text.specs.Reading.{lines_of}
use Rattle.mcs_phases.specs.declared.fault.SimFault.{SimFault}
use Rattle.mcs_source.specs.declared.source.TheConstants.{PIECE}
use Rattle.mcs_phases.specs.declared.fault.SimFault.TheVariants as fault
use Rattle.mcs_phases.specs.Script.{Script, no_script, of_users, script_from, users}
use Rattle.mcs_phases.specs.Feeds.{HasNoNewline}

-- what the lines that have ended said, where this many cores may be asked for, how many they are,
-- and the bytes of the line that has not ended
pub record Users : Type 0 where
  pub asked : Option ℕ
  pub script : Script UserEntry
  pub lines : ℕ
  pub line : List ℕ

-- before the first byte
abbrev pub no_users : Option ℕ → Users
no_users asked = record { asked = asked; script = no_script; lines = 0; line = [] }

-- there are no more lines than a script may have, and no more bytes of the last than a line
pub record IsKept (lines : ℕ) (line : List ℕ) : Type 0 where
  pub few : lines ≤ SCRIPT_LINES
  pub short : length line ≤ SCRIPT_LINE_BYTES
  pub room : 0 < length line → lines < SCRIPT_LINES
  pub plain : HasNoNewline line

-- what is read where this text follows the lines that have ended
abbrev pub read_after : Users → List ℕ → Script UserEntry × Option (ℕ × LineFault)
read_after u text = script_from (of_users u.asked) u.script (u.lines + 1) (lines_of text)

-- lines, each with its newline
abbrev pub AreLines : List ℕ → Type 0
AreLines text = (text ≡ []) ⊎ ((before : List ℕ) × (text ≡ before ++ 10 ∷ []))

-- bytes were taken: of the lines that ended with them none is faulty
pub record TakesUsers (bytes : List ℕ) (old new : Users) : Type 0 where
  pub ended : List ℕ
  pub split : old.line ++ bytes ≡ ended ++ new.line
  pub lines : AreLines ended
  pub count : (more : List ℕ) → old.lines + length (lines_of (ended ++ more)) ≡ new.lines + length (lines_of more)
  pub short : old.lines * (SCRIPT_LINE_BYTES + 1) + length ended ≤ new.lines * (SCRIPT_LINE_BYTES + 1)
  pub reads : (more : List ℕ) → read_after old (ended ++ more) ≡ read_after new more

-- a fault that these bytes have, whatever follows; nothing is said where memory was refused
abbrev pub IsFaultIn : (bytes : List ℕ) → Users → SimFault → Type 0
IsFaultIn bytes u (fault.Script line why) = (more : List ℕ) → (read_after u (u.line ++ bytes ++ more)).1 ≡ Some (line, why)
IsFaultIn bytes u fault.OutOfMemory = Unit {0}
IsFaultIn bytes u _ = ⊥

-- a fault of the line of this number, by what reading it gives
abbrev pub IsFaultOfLine : (number : ℕ) → Result (Script UserEntry) LineFault → SimFault → Type 0
IsFaultOfLine number read (fault.Script line why) = (line ≡ number) × (read ≡ Err why)
IsFaultOfLine number read fault.OutOfMemory = Unit {0}
IsFaultOfLine number read _ = ⊥

-- what is read of a last line, which has no newline and may not be there
abbrev pub read_to_end : Users → Script UserEntry × Option (ℕ × LineFault)
read_to_end u = read_after u u.line

-- a fault of a text that has ended
abbrev pub IsFaultAtEnd : Users → SimFault → Type 0
IsFaultAtEnd u (fault.Script line why) = (read_to_end u).1 ≡ Some (line, why)
IsFaultAtEnd u fault.OutOfMemory = Unit {0}
IsFaultAtEnd u _ = ⊥

-- no line of this text is faulty: where a fault is read of it alone, that is the end
abbrev pub AreFaultless : (asked : Option ℕ) (text : List ℕ) → Type 0
AreFaultless asked text = (line : ℕ) (why : LineFault) → (users asked text).1 ≡ Some (line, why) → length (lines_of text) < line

-- a text gives no fault yet: none of the lines that have ended is faulty, and the last has not
-- ended and is no longer than a line may be, nor one too many
pub record GoesOn (asked : Option ℕ) (text : List ℕ) : Type 0 where
  pub ended : List ℕ
  pub last : List ℕ
  pub split : text ≡ ended ++ last
  pub lines : AreLines ended
  pub faultless : AreFaultless asked ended
  pub plain : HasNoNewline last
  pub short : length last ≤ SCRIPT_LINE_BYTES
  pub few : length (lines_of text) ≤ SCRIPT_LINES

-- reading users stops soon: within one piece, at most, after what gave no fault
pub record UsersStopSoon (asked : Option ℕ) (text : List ℕ) : Type 0 where
  pub before : List ℕ
  pub piece : List ℕ
  pub split : text ≡ before ++ piece
  pub few : length piece ≤ PIECE
  pub goes : GoesOn asked before
