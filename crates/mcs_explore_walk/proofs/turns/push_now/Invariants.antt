use Rattle.std.proofs.Common.{◌≡◌, ◌++◌, drop, map}
use Rattle.mcs_explore_walk.specs.Walks.{turn_of}
use Rattle.mcs_explore_walk.proofs.turns.push_now.Given as goal

abbrev pub invariant-loop-pick : goal.invariant-loop-pick
invariant-loop-pick l = l.fn.turns.items ++ map (turn_of l.core) l.now ≡ l.turns.items ++ map (turn_of l.core) (drop l.pick-index l.now)
