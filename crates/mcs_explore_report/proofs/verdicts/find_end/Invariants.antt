use Rattle.mcs_explore_report.specs.Verdicts.{HasEach}
use Rattle.mcs_explore_report.proofs.verdicts.find_end.Given as goal

abbrev pub invariant-loop-index : goal.invariant-loop-index
invariant-loop-index l = HasEach l.kinds l.event l.index
