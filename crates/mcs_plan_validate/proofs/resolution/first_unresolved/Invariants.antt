use Rattle.std.proofs.Common.{◌≡◌, ◌<◌, ℕ, Some, Global}
use Rattle.std.specs.Prelude.{All, Vec, slice_get}
use Rattle.mcs_book.specs.History.{log_of}
use Rattle.mcs_plan_layout.specs.declared.tables.Named.{Named}
use Rattle.mcs_plan_validate.specs.Leading.{Leads, thread_at}
use Rattle.mcs_plan_validate.proofs.resolution.first_unresolved.Given as goal

abbrev pub invariant-loop-place : goal.invariant-loop-place
invariant-loop-place g l = (k : ℕ) (table : Vec Named Global) → k < l.place → slice_get l.tables.items k ≡ Some table → All (Leads (log_of l.kernel) (thread_at k)) table.items
