use Rattle.std.proofs.Common.{◌≡◌, ◌≤◌, ◌-◌, length, take}
use Rattle.mcs_explore_orders.specs.Trails.{IsTrail, turns_of}
use Rattle.mcs_explore_orders.proofs.path_cache.PathCache.go_along.Given as goal

abbrev pub invariant-loop-at : goal.invariant-loop-at
invariant-loop-at l = (l.self.start ≡ l.fn.self.start) × IsTrail l.users l.self.start l.self.points × (turns_of l.self.points ≡ take l.at l.path) × (l.at ≤ length l.path)

abbrev pub decreases-loop-at : goal.decreases-loop-at
decreases-loop-at l = length l.path - l.at
