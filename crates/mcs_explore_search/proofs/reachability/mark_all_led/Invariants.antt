use Rattle.mcs_explore_search.specs.Reaching.{unmarked}
use Rattle.mcs_explore_search.proofs.Marks.{IsMarking}
use Rattle.mcs_explore_search.proofs.reachability.mark_all_led.Given as goal

abbrev pub invariant-loop : goal.invariant-loop
invariant-loop g l = IsMarking l.edges l.initial.marks.items l.marks.items

abbrev pub decreases-loop : goal.decreases-loop
decreases-loop g l = unmarked l.marks.items
