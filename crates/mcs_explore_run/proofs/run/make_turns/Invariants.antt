use Rattle.std.proofs.Common.{◌≡◌}
use Rattle.mcs_turns.specs.Turns.{IsRun}
use Rattle.mcs_explore_run.specs.Samples.{SeesRuns}
use Rattle.mcs_explore_run.proofs.run.make_turns.Given as goal

abbrev pub invariant-loop-turns : goal.invariant-loop-turns
invariant-loop-turns g l = record {
  run : IsRun l.script.users l.script.boot l.turns l.walk;
  aim : g.W.Watch.aim l.watch ≡ g.W.Watch.aim l.initial.watch;
  sees : SeesRuns g.W.Watch.HasSeen l.initial.watch l.watch l.script.users l.script.boot;
}
