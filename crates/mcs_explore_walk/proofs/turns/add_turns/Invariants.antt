use Rattle.std.proofs.Common.{◌≡◌, ◌++◌, drop}
use Rattle.mcs_explore_walk.specs.Walks.{stale_turns, turns_of}
use Rattle.mcs_explore_walk.proofs.turns.add_turns.Given as goal

abbrev pub invariant-loop-pick : goal.invariant-loop-pick
invariant-loop-pick l = l.fn.turns.items ++ turns_of l.core l.now l.stale
    ≡ l.turns.items ++ stale_turns l.core l.now (drop l.pick-index l.stale)
