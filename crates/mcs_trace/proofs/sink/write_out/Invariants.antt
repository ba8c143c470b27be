use Rattle.std.proofs.Common.{◌≤◌, length}
use Rattle.mcs_trace.specs.Output.{Moves}
use Rattle.mcs_trace.proofs.sink.write_out.Given as goal

abbrev pub invariant-loop-rest : goal.invariant-loop-rest
invariant-loop-rest g l = record {
  moves : Moves (g.W.Write.contents l.initial.writer) (g.W.Write.contents l.writer) l.bytes l.rest;
  count : l.initial.failed ≤ l.failed;
}

abbrev pub decreases-loop-rest : goal.decreases-loop-rest
decreases-loop-rest g l = length l.rest
