use Rattle.std.proofs.Common.{ap}
use Rattle.mcs_text.specs.Table.{step_text, answer_text}
use Rattle.mcs_trace.proofs.Outputs.{Puts-then, Puts-text}
use Rattle.mcs_sim.proofs.trace_text.put_book_line.Goals as goal

pub returns-clause-puts : goal.returns-clause-puts
returns-clause-puts g c =
    Puts-then _ _ _ _ _ _ (Puts-then _ _ _ _ _ _ (Puts-text _ _ _ _ _ c.put_kept_step.ensures (ap step_text c.kept_step.ensures)) (Puts-text _ _ _ _ _ c.put_kept_answer.ensures (ap answer_text c.kept_answer.ensures)))
    c.put_records.ensures.puts
