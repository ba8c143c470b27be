-- What is on a line, and the room after it.
use Rattle.std.specs.Prelude.{◌≡◌, ℕ, ◌+◌, ◌≤◌, List, ◌++◌, length}
use Rattle.mcs_trace.specs.declared.line.TheConstants.{SIZE}

-- there is room for this many bytes more
abbrev pub HasRoom : List ℕ → ℕ → Type 0
HasRoom line count = length line + count ≤ SIZE

-- a text follows what was there, and took at most so much room
abbrev pub Adds : List ℕ → List ℕ → ℕ → List ℕ → Type 0
Adds old new most text = (new ≡ old ++ text) × (length new ≤ length old + most)
