-- How many records a line may have.
use Rattle.std.specs.Prelude.{ℕ, ◌+◌, ◌*◌, ◌≤◌, List, [], ◌∷◌, length}
use Rattle.mcs_types.specs.declared.boot.BootLine.{BootLine}
use Rattle.mcs_types.specs.declared.boot.BootLine.TheVariants as boot
use Rattle.mcs_book.specs.Logs.{Log}
use Rattle.mcs_book.specs.History.{Line}

-- how many threads the lines of a boot make
abbrev pub threads_of : List BootLine → ℕ
threads_of [] = 0
threads_of (boot.Thread priority maximum root guard runs context ∷ lines) = threads_of lines + 1
threads_of (_ ∷ lines) = threads_of lines

-- how many records a line makes at most, where this many threads were made
abbrev pub most_records : ℕ → ℕ
most_records made = 4 * made + 32

-- a line has at most n records
abbrev pub HasAtMost : ℕ → Log → Line → Type 0
HasAtMost n R l = length l.records ≤ n
