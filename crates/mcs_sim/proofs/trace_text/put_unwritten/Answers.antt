use Rattle.mcs_trace.proofs.Outputs.{Puts-then}
use Rattle.mcs_sim.specs.Trace.{unwritten}
use Rattle.mcs_sim.proofs.trace_text.put_unwritten.Goals as goal

pub returns-clause-puts : goal.returns-clause-puts
unfolding unwritten
returns-clause-puts g c = Puts-then _ _ _ _ _ _ c.put_unwritten_boot.ensures c.put_lines-written.ensures.puts
