use Rattle.std.proofs.Common.{◌≡◌, ◌++◌, drop}
use Rattle.mcs_explore_orders.proofs.packed.unpacked.Given as goal

abbrev pub invariant-loop-turn : goal.invariant-loop-turn
invariant-loop-turn l = l.packed ≡ l.turns.items ++ drop l.turn-index l.packed
