-- What comes of a script that is taken line by line.
use Rattle.std.specs.Prelude.{◌≡◌, ◌⊎◌, ℕ, ◌+◌, List, [], ◌∷◌, ◌++◌, length, Option, Some, None}
use Rattle.mcs_types.specs.declared.entry.Step.{Step}
use Rattle.mcs_book.specs.Boots.{Boot}
use Rattle.mcs_book.specs.History.{book_of}
use Rattle.mcs_text.specs.declared.fault.LineFault.{LineFault}
use Rattle.mcs_phases.specs.declared.fault.SimFault.TheVariants as fault
use Rattle.mcs_phases.specs.Script.{Script}
use Rattle.mcs_sim.specs.Runs.{IsFullAt, IsRoomy}
use Rattle.mcs_phases.specs.Feeds.{BootOrBook, Course, not_begun}

-- what is after the lines of a script
abbrev pub boot_or_book_of : Option Boot → List Step → BootOrBook
boot_or_book_of boot [] = record { boot = boot; book = None }
boot_or_book_of None (s ∷ ss) = not_begun
boot_or_book_of (Some b) (s ∷ ss) = record { boot = None; book = Some (book_of b (s ∷ ss)) }

-- all of a script was taken
pub record IsTaken (t : Script Step) (c : Course) : Type 0 where
  pub boot : Boot
  pub said : t.boot ≡ Some boot
  pub roomy : IsRoomy t.boot t.items
  pub goes : c.fault ≡ None
  pub book : c.stands.book ≡ Some (book_of boot t.items)

-- a script was taken to its faulty line
pub record IsTakenTo (line : ℕ) (why : LineFault) (t : Script Step) (c : Course) : Type 0 where
  pub roomy : IsRoomy t.boot t.items
  pub ended : c.fault ≡ Some (fault.Script line why)
  pub book : c.stands.book ≡ (boot_or_book_of t.boot t.items).book

-- a script was taken to the first step for which the book is full: the book is that of the steps
-- before it
pub record IsTakenToFull (t : Script Step) (c : Course) : Type 0 where
  pub before : List Step
  pub step : Step
  pub after : List Step
  pub split : t.items ≡ before ++ step ∷ after
  pub full : IsFullAt (length before + 1) t.boot t.items
  pub ended : c.fault ≡ Some fault.BookFull
  pub book : c.stands.book ≡ (boot_or_book_of t.boot before).book

-- the course that a script gives, with its first faulty line, if it has one
abbrev pub ComesOfScript : Script Step × Option (ℕ × LineFault) → Course → Type 0
ComesOfScript (t, None) c = IsTaken t c ⊎ IsTakenToFull t c
ComesOfScript (t, Some (line, why)) c = IsTakenTo line why t c ⊎ IsTakenToFull t c
