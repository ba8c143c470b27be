use Rattle.mcs_explore_report.specs.Ends.{IsNoKind}
use Rattle.mcs_explore_report.proofs.ends.Ends.find.Given as goal

abbrev pub invariant-loop-index : goal.invariant-loop-index
invariant-loop-index l = IsNoKind l.self l.standing l.index
