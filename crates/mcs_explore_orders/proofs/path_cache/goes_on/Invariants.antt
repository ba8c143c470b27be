use Rattle.std.proofs.Common.{◌≡◌, ◌≤◌, ◌+◌, ◌++◌, length, take}
use Rattle.mcs_explore_orders.proofs.path_cache.goes_on.Given as goal

abbrev pub invariant-loop-index : goal.invariant-loop-index
invariant-loop-index l = (take (l.at + l.index) l.path ≡ take l.at l.path ++ take l.index l.turns) × (l.index ≤ length l.turns) × (l.at + length l.turns ≤ length l.path)
