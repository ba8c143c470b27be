use Rattle.std.proofs.Common.{take}
use Rattle.std.specs.Prelude.{All}
use Rattle.mcs_book.specs.History.{log_of}
use Rattle.mcs_plan_validate.specs.Leading.{Leads}
use Rattle.mcs_plan_validate.proofs.resolution.first_astray.Given as goal

abbrev pub invariant-loop-named : goal.invariant-loop-named
invariant-loop-named g l = All (Leads (log_of l.kernel) l.thread) (take l.named-index l.table.items)
