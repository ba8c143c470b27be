use Rattle.std.proofs.Common.{◌≡◌, List, ℕ, ◌++◌, length}
use Rattle.mcs_sim.specs.Users.{TakesUsers}
use Rattle.mcs_sim.proofs.users.UserLines.feed.Given as goal

abbrev pub invariant-loop-i : goal.invariant-loop-i
invariant-loop-i l = record {
  reached : (before : List ℕ) × (l.piece ≡ before ++ l.rest) × TakesUsers before l.initial.self l.self;
}

abbrev pub decreases-loop-i : goal.decreases-loop-i
decreases-loop-i l = length l.rest
