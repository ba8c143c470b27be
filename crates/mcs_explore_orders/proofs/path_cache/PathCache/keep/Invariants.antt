use Rattle.std.proofs.Common.{◌≡◌, length, take}
use Rattle.mcs_explore_orders.proofs.path_cache.PathCache.keep.Given as goal

abbrev pub invariant-loop-self : goal.invariant-loop-self
invariant-loop-self l = (l.self.start ≡ l.fn.self.start) × (take l.count l.self.points ≡ take l.count l.fn.self.points)

abbrev pub decreases-loop-self : goal.decreases-loop-self
decreases-loop-self l = length l.self.points
