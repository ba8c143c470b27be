use Rattle.std.proofs.Common.{◌≡◌, ◌+◌, ◌-◌, ◌*◌, ◌≤◌, ℕ, false, List, [], None, length}
use Rattle.std.specs.Io.KnownBytes.{Consumes}
use Rattle.mcs_trace.specs.Output.{Puts, kept}
use Rattle.mcs_sim.specs.Trace.{trace_of}
use Rattle.mcs_phases.specs.Feeds.{at_line, no_line, fed}
use Rattle.mcs_sim.proofs.replay.simulate.Given as goal

abbrev pub invariant-loop-n : goal.invariant-loop-n
invariant-loop-n g l = record {
  reached : (text : List ℕ) × Consumes (g.R.Read.remaining l.initial.from.reader) (g.R.Read.remaining l.from.reader) text × (l.run ≡ fed (at_line no_line) text);
  goes : l.run.course.fault ≡ None;
  puts : Puts g.W.Write.contents l.initial.to l.to (trace_of l.run.course.stands.book);
  empty : kept l.to ≡ [];
  whole : l.to.is_broken ≡ false;
  count : l.initial.from.failed ≤ l.from.failed;
}

abbrev pub decreases-loop-n : goal.decreases-loop-n
decreases-loop-n g l = 8194004096 - (l.run.course.lines * 4097 + length l.run.line)
