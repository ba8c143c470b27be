use Rattle.mcs_explore_report.specs.Ends.{AreRunEnds}
use Rattle.mcs_explore_report.proofs.frontier.deep_ends.Given as goal

abbrev pub invariant-loop-place : goal.invariant-loop-place
invariant-loop-place g l = AreRunEnds l.script.users l.script.boot l.ends
