-- What a clause sees of how far a replay has come.
use Rattle.std.specs.Prelude.{ℕ, ◌≡◌, Option, Some, None, Result, Ok, Err, []}
use Rattle.mcs_book.specs.Boots.{Boot}
use Rattle.mcs_book.specs.History.{Book}
use Rattle.mcs_phases.specs.Feeds.{BootOrBook}
use Rattle.mcs_phases.specs.declared.fault.SimFault.{SimFault}
use Rattle.mcs_phases.specs.declared.fault.SimFault.TheVariants as fault
use Rattle.mcs_phases.specs.declared.phase.Outcome.{Outcome}
use Rattle.mcs_phases.specs.declared.phase.Outcome.TheVariants as outcome
use Rattle.mcs_phases.specs.declared.phase.Phase.{Phase}
use Rattle.mcs_phases.specs.declared.phase.Phase.TheVariants.{Booting, Running}

-- the boot so far, until a run has begun
abbrev pub opened_to : Option Boot → Option Book → BootOrBook
opened_to boot None = record { boot = boot; book = None }
opened_to boot (Some k) = record { boot = None; book = Some k }

-- the boot so far, or the book
abbrev pub seen : Phase → BootOrBook
seen (Booting script) = opened_to script.boot None
seen (Running k) = opened_to None (Some k)

-- no step is read but with the line that ends the boot
abbrev pub HasNoItems : Phase → Type 0
HasNoItems (Booting script) = script.items ≡ []
HasNoItems (Running k) = Unit {0}

-- the result of the line of this number
abbrev pub answer_at : ℕ → Outcome → Result (Unit {0}) SimFault
answer_at number outcome.Taken = Ok tt
answer_at number (outcome.Script why) = Err (fault.Script number why)
answer_at number outcome.BookFull = Err fault.BookFull
answer_at number outcome.OutOfMemory = Err fault.OutOfMemory
