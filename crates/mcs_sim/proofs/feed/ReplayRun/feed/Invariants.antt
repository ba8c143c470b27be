use Rattle.std.proofs.Common.{◌≡◌, List, ℕ, ◌++◌, None, length}
use Rattle.mcs_phases.specs.Feeds.{Takes}
use Rattle.mcs_sim.proofs.feed.ReplayRun.feed.Given as goal

abbrev pub invariant-loop-i : goal.invariant-loop-i
invariant-loop-i l = record {
  goes : l.self.course.fault ≡ None;
  reached : (before : List ℕ) × (l.piece ≡ before ++ l.rest) × Takes l.initial.self before l.self;
}

abbrev pub decreases-loop-i : goal.decreases-loop-i
decreases-loop-i l = length l.rest
