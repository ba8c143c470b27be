use Rattle.std.proofs.Common.{◌≡◌, ◌-◌, ◌*◌, ◌≤◌, take}
use Rattle.mcs_trace.specs.Output.{Puts}
use Rattle.mcs_sim.specs.Trace.{sent_in, lines_trace, unwritten_lines}
use Rattle.mcs_sim.proofs.trace_text.put_lines.Given as goal

abbrev pub invariant-loop-i : goal.invariant-loop-i
invariant-loop-i g l = record {
  puts : Puts g.W.Write.contents l.initial.sink l.sink (lines_trace l.fn.written.sent (take (l.i - 1 - (l.fn.written.lines - 1)) (unwritten_lines l.fn.written l.book.book)));
  sent : l.sent ≡ sent_in l.fn.written.sent (take (l.i - 1 - (l.fn.written.lines - 1)) (unwritten_lines l.fn.written l.book.book));
  few : l.sent ≤ (l.i - 1) * 18446744073709551616;
}
