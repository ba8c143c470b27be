use Rattle.std.proofs.Common.{◌≡◌, ◌++◌, drop}
use Rattle.mcs_turns.specs.Due.{stale_after}
use Rattle.mcs_explore_walk.proofs.walk.Walk.stale_after.Given as goal

abbrev pub invariant-loop-other : goal.invariant-loop-other
invariant-loop-other g l = stale_after l.core.0 l.user 0 l.picks l.self.stale
    ≡ l.after.items ++ stale_after l.core.0 l.user l.other (drop l.other l.picks) (drop l.other l.self.stale)
