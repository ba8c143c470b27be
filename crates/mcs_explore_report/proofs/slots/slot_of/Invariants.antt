use Rattle.std.proofs.Common.{◌≤◌, ◌-◌}
use Rattle.mcs_book.specs.History.{log_of}
use Rattle.mcs_explore_report.specs.Origins.{HaveNone}
use Rattle.mcs_explore_report.proofs.slots.slot_of.Given as goal

abbrev pub invariant-loop-serial : goal.invariant-loop-serial
invariant-loop-serial l = (1 ≤ l.serial) × HaveNone (log_of l.kernel) l.object (l.serial - 1)
