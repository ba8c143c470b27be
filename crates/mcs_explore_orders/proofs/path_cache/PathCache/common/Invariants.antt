use Rattle.std.proofs.Common.{◌≡◌, ◌≤◌, length, take}
use Rattle.mcs_explore_orders.specs.Trails.{turns_of}
use Rattle.mcs_explore_orders.proofs.path_cache.PathCache.common.Given as goal

abbrev pub invariant-loop-index : goal.invariant-loop-index
invariant-loop-index l = (turns_of (take l.index l.self.points) ≡ take l.at l.path) × (l.at ≤ length l.path) × (l.index ≤ length l.self.points)
