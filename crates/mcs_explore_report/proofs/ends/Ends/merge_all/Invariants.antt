use Rattle.mcs_explore_report.specs.Ends.{AreMergedBelow}
use Rattle.mcs_explore_report.proofs.ends.Ends.merge_all.Given as goal

abbrev pub invariant-loop-index : goal.invariant-loop-index
invariant-loop-index l = AreMergedBelow l.more l.initial.self l.self l.index
