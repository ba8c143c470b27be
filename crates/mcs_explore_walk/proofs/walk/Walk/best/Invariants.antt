use Rattle.std.proofs.Common.{◌≡◌, length}
use Rattle.mcs_explore_walk.specs.Walks.{AreBestBelow}
use Rattle.mcs_explore_walk.proofs.walk.Walk.best.Given as goal

abbrev pub invariant-loop-user : goal.invariant-loop-user
invariant-loop-user g l = AreBestBelow l.users l.self l.user l.best.items × (length l.best.items ≡ l.self.book.boot.cores)
