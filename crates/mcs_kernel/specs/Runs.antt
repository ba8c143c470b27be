-- Runs of steps: where the book is full for one that would be accepted.
use Rattle.std.specs.Prelude.{ℕ, ◌≡◌, ◌<◌, ◌≤◌, ◌+◌, ◌-◌, ◌^◌, min, Bool, true, false, cond, Option, Some, None, List, [], ◌∷◌}
use Rattle.std.specs.Option.{IfSome}
use Rattle.mcs_types.specs.declared.entry.Step.{Step}
use Rattle.mcs_types.specs.declared.entry.Answer.{Answer}
use Rattle.mcs_book.specs.Boots.{Boot}
use Rattle.mcs_book.specs.History.{Book, log_of, with_step}
use Rattle.mcs_book.specs.Statuses.{may_enter}
use Rattle.mcs_book.specs.Table.{does}
use Rattle.mcs_kernel.specs.Faults.{fault_of}
use Rattle.mcs_kernel.specs.declared.fault.ReplayFault.{ReplayFault}
use Rattle.mcs_kernel.specs.declared.fault.ReplayFault.TheVariants as ended
use Rattle.mcs_kernel.specs.declared.fault.EnterFault.{EnterFault}
use Rattle.mcs_kernel.specs.declared.fault.EnterFault.TheVariants.{BookFull}

-- a replay so far: its book, and how many steps it took
pub record Run : Type 0 where
  pub book : Book
  pub taken : ℕ

-- a replay of a boot that took no step
abbrev pub begun : Boot → Run
begun boot = record { book = record { boot = boot; lines = [] }; taken = 0 }

-- the count after one step more; it stays at the greatest number of 64 bits
abbrev pub next_count : ℕ → ℕ
next_count n = min (n + 1) (2 ^ 64 - 1)

-- a replay after one step more
abbrev pub after_step : Run → Step → Run
after_step r s = record { book = with_step r.book s; taken = next_count r.taken }

-- what a step is answered: what the table says where its thread may enter, and nothing where it is
-- skipped
abbrev pub answer_to : Book → Step → Option Answer
answer_to b s = elim (may_enter (log_of b) s.core s.thread) [ true ↦ Some ((does (log_of b) s.core s.thread s.entry).answer) | false ↦ None ]

-- whether it is that the book is full
abbrev pub is_book_full : Option EnterFault → Bool
is_book_full (Some BookFull) = true
is_book_full _ = false

-- the number of the first of these steps that would be accepted and for which the book is full; n
-- were taken before
abbrev pub full_after : ℕ → Book → List Step → Option ℕ
full_after n b [] = None
full_after n b (s ∷ ss) = cond (is_book_full (fault_of b s.core s.thread)) (Some (n + 1)) (full_after (n + 1) (with_step b s) ss)

-- the same, of steps that begin with a boot
abbrev pub full_in : Boot → List Step → Option ℕ
full_in boot ss = full_after 0 (record { boot = boot; lines = [] }) ss

-- a fault of a replay of this many steps, whose first step with a full book has this number:
-- BookFull comes at that step alone, and OutOfMemory at one of the steps before it, or at the boot,
-- which has the number 0
abbrev pub EndsAt : ℕ → Option ℕ → ReplayFault → Type 0
EndsAt count full (ended.BookFull n) = full ≡ Some n
EndsAt count full (ended.OutOfMemory n) = (n ≤ count) × IfSome full (λ m. n < m)

-- a fault of the step with this number: BookFull where the book is full for it, else OutOfMemory
abbrev pub StepEnds : ℕ → Bool → ReplayFault → Type 0
StepEnds number full (ended.BookFull n) = (n ≡ number) × (full ≡ true)
StepEnds number full (ended.OutOfMemory n) = (n ≡ number) × (full ≡ false)
