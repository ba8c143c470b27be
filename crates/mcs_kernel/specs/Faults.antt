-- Why an entry is skipped, memory aside.
use Rattle.std.specs.Prelude.{◌≡◌, ◌+◌, Result, Bool, cond, nat_lt, Option, Some, None, length, ◌∷◌}
use Rattle.mcs_types.specs.declared.id.ObjId.{ObjId}
use Rattle.mcs_types.specs.declared.id.CoreId.{CoreId}
use Rattle.std.specs.Result.{IfErr}
use Rattle.mcs_types.specs.declared.entry.Step.{Step}
use Rattle.mcs_types.specs.declared.entry.Entry.{Entry}
use Rattle.mcs_types.specs.declared.entry.Answer.{Answer}
use Rattle.mcs_book.specs.Objects.{form_of}
use Rattle.mcs_book.specs.Contexts.{context_of}
use Rattle.mcs_book.specs.Statuses.{status_of, is_ready, is_on_core}
use Rattle.mcs_book.specs.History.{Book, log_of}
use Rattle.mcs_types.specs.Limits.{line_limit}
use Rattle.mcs_book.specs.Table.{does}
use Rattle.mcs_book.specs.History.{line_for}
use Rattle.mcs_kernel.specs.declared.fault.EnterFault.{EnterFault}
use Rattle.mcs_kernel.specs.declared.fault.EnterFault.TheVariants.{NotRunning, NoContext, WrongCore, BookFull, OutOfMemory}

-- whether the book has fewer lines than it may have, the boot's among them
abbrev pub has_room : Book → Bool
has_room b = nat_lt (length b.lines + 1) line_limit

-- the fault of the context that a thread holds
abbrev pub context_fault : Book → CoreId → Option ObjId → Option EnterFault
context_fault b core None = Some NoContext
context_fault b core (Some s) = cond (is_on_core core (form_of (log_of b) s)) (cond (has_room b) None (Some BookFull)) (Some WrongCore)

-- why an entry of t on this core is skipped: it is not ready, holds no context, or one of another
-- core, or the book is full
unfoldable pub fault_of : Book → CoreId → ObjId → Option EnterFault
fault_of b core t = cond (is_ready (status_of (log_of b) t)) (context_fault b core (context_of (log_of b) t)) (Some NotRunning)

-- the book with the line of a step that is accepted
abbrev pub entered : Book → Step → Book
entered b s = record b { lines = line_for s (does (log_of b) s.core s.thread s.entry) ∷ b.lines }

-- the same, by the parts of the step
abbrev pub with_entry : Book → CoreId → ObjId → Entry → Book
with_entry b core t entry = entered b (record { core = core; thread = t; entry = entry })

-- a fault is that memory was refused
abbrev pub FailsForMemory : Result Answer EnterFault → Type 0
FailsForMemory result = IfErr result (λ f. f ≡ OutOfMemory)
