use Rattle.std.proofs.Common.{ap, sym}
use Rattle.mcs_text.specs.Table.{answer_text}
use Rattle.mcs_trace.proofs.Outputs.{Puts-then, Puts-text}
use Rattle.mcs_sim.proofs.trace_text.put_read_line.Goals as goal

pub returns-clause-puts : goal.returns-clause-puts
returns-clause-puts g c =
    Puts-then _ _ _ _ _ _ (Puts-then _ _ _ _ _ _ (Puts-text _ _ _ _ _ c.put_spelled.ensures (sym c.requires.text)) (Puts-text _ _ _ _ _ c.put_kept_answer.ensures (ap answer_text c.kept_answer.ensures)))
    c.put_records.ensures.puts
