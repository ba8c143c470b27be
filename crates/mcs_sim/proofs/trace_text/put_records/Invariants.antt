use Rattle.std.proofs.Common.{◌≡◌, ◌+◌, ◌≤◌, take}
use Rattle.mcs_trace.specs.Output.{Puts}
use Rattle.mcs_sim.specs.Trace.{sent_after, records_trace}
use Rattle.mcs_sim.proofs.trace_text.put_records.Given as goal

abbrev pub invariant-loop-i : goal.invariant-loop-i
invariant-loop-i g l = record {
  puts : Puts g.W.Write.contents l.initial.sink l.sink (records_trace l.sent (take l.i l.line.records));
  sent : l.count ≡ sent_after l.sent (take l.i l.line.records);
  few : l.count ≤ l.sent + l.i;
}
