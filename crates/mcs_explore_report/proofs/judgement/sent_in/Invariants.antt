use Rattle.std.proofs.Common.{◌≡◌, ◌≤◌, drop}
use Rattle.mcs_sim.specs.Trace.{sent_after}
use Rattle.mcs_explore_report.proofs.judgement.sent_in.Given as goal

abbrev pub invariant-loop-i : goal.invariant-loop-i
invariant-loop-i l = record {
  few : l.sent ≤ l.i;
  rest : sent_after 0 l.line.records ≡ sent_after l.sent (drop l.i l.line.records);
}
