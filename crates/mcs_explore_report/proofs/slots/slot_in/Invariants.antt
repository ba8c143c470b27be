use Rattle.mcs_book.specs.History.{log_of}
use Rattle.mcs_explore_report.specs.Origins.{HasNone}
use Rattle.mcs_explore_report.proofs.slots.slot_in.Given as goal

abbrev pub invariant-loop-index : goal.invariant-loop-index
invariant-loop-index l = HasNone (log_of l.kernel) l.object l.cnode l.index
