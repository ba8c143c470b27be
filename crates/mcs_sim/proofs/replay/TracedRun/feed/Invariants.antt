use Rattle.std.proofs.Common.{◌≡◌, List, ℕ, ◌++◌, None, length}
use Rattle.mcs_phases.specs.Feeds.{Takes}
use Rattle.mcs_sim.specs.Runs.{TellsMore}
use Rattle.mcs_sim.proofs.replay.TracedRun.feed.Given as goal

abbrev pub invariant-loop-i : goal.invariant-loop-i
invariant-loop-i g l = record {
  goes : l.self.course.fault ≡ None;
  reached : (before : List ℕ) × (l.piece ≡ before ++ l.rest) × Takes l.initial.self before l.self;
  puts : TellsMore g.W.Write.contents l.initial.to l.to l.initial.self.course.stands.book l.self.course.stands.book;
}

abbrev pub decreases-loop-i : goal.decreases-loop-i
decreases-loop-i g l = length l.rest
