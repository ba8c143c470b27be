use Rattle.std.proofs.Common.{◌≡◌, ◌≤◌, ◌⊎◌}
use Rattle.std.specs.Io.KnownBytes.{Keeps}
use Rattle.mcs_trace.specs.Output.{Rose}
use Rattle.mcs_trace.proofs.sink.write_some.Given as goal

abbrev pub invariant-loop : goal.invariant-loop
invariant-loop g l = record {
  kept : Keeps (g.W.Write.contents l.initial.writer) (g.W.Write.contents l.writer);
  count : l.initial.failed ≤ l.failed;
  rose : (l.counter ≡ 0) ⊎ Rose l.initial.failed l.failed;
}
