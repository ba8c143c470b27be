use Rattle.mcs_explore_search.specs.Reaching.{IsSweeping}
use Rattle.mcs_explore_search.proofs.reachability.sweep.Given as goal

abbrev pub invariant-loop-number : goal.invariant-loop-number
invariant-loop-number g l = IsSweeping l.edges l.initial.marks.items l.marks.items l.added l.number
