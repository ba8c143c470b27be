-- What a call leaves in memory of its caller's.
use Rattle.std.specs.Prelude.{◌≡◌, ℕ, List, ◌++◌, length, take, drop}
use Rattle.mcs_c.specs.declared.output.Ending.{Ending}
use Rattle.mcs_c.specs.declared.output.McsEnd.{McsEnd}

-- of a text as much was written as there was room for, and the bytes after it are unchanged
abbrev pub Fills : (text old new : List ℕ) → Type 0
Fills text old new = new ≡ take (length old) text ++ drop (length text) old

-- the text is handed out as far as it fits, and has this many bytes in all
pub record HandsOut (text old new : List ℕ) (n : ℕ) : Type 0 where
  pub bytes : Fills text old new
  pub whole : n ≡ length text

-- memory was refused: that was answered, and nothing was written
pub record IsRefused (status : ℕ) (old new : List ℕ) (end end' : McsEnd) : Type 0 where
  pub answered : status ≡ 6
  pub bytes : new ≡ old
  pub ended : end' ≡ end

-- a call returned the status of an ending, and wrote its line and its fault
pub record Ends (e : Ending) (status : ℕ) (end : McsEnd) : Type 0 where
  pub answered : status ≡ e.status
  pub line : end.line ≡ e.line
  pub why : end.fault ≡ e.fault

-- an ending that names no line
abbrev pub with_status : ℕ → Ending
with_status status = record { status = status; line = 0; fault = 0 }

-- an ending by a line that is refused
abbrev pub at_line : (line fault : ℕ) → Ending
at_line line fault = record { status = 2; line = line; fault = fault }
