use Rattle.std.proofs.Common.{◌≡◌, ◌≤◌, ◌⊎◌}
use Rattle.std.specs.Io.KnownBytes.{Keeps}
use Rattle.mcs_trace.specs.Output.{Rose}
use Rattle.mcs_source.proofs.source.read_some.Given as goal

abbrev pub invariant-loop : goal.invariant-loop
invariant-loop g l = record {
  kept : Keeps (g.R.Read.remaining l.initial.reader) (g.R.Read.remaining l.reader);
  count : l.initial.failed ≤ l.failed;
  rose : (l.counter ≡ 0) ⊎ Rose l.initial.failed l.failed;
}
