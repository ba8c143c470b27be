use Rattle.std.proofs.Common.{◌≡◌, ◌++◌, drop}
use Rattle.mcs_explore_walk.proofs.copies.copy_all.Given as goal

abbrev pub invariant-loop-picks : goal.invariant-loop-picks
invariant-loop-picks l = l.all ≡ l.copies.items ++ drop l.picks-index l.all
