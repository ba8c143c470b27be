use Rattle.std.proofs.Common.{◌≡◌, ◌++◌}
use Rattle.mcs_book.specs.History.{log_of}
use Rattle.mcs_explore_rows.specs.Rows.{slots_numbers}
use Rattle.mcs_explore_rows.proofs.exact.put_slots.Given as goal

abbrev pub invariant-loop-index : goal.invariant-loop-index
invariant-loop-index g l = l.row.items ≡ l.fn.row.items ++ slots_numbers (log_of l.kernel) l.cnode l.index
