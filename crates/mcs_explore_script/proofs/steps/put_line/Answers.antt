use Rattle.std.proofs.Common.{ap}
use Rattle.mcs_text.specs.Table.{answer_text, step_text}
use Rattle.mcs_trace.proofs.Outputs.{Puts-text, Puts-then}
use Rattle.mcs_explore_script.proofs.steps.put_line.Goals as goal

pub returns : goal.returns
returns g c =
    Puts-then _ _ _ _ _ _ (Puts-text _ _ _ _ _ c.put_kept_step.ensures (ap step_text c.kept_step.ensures))
    (Puts-text _ _ _ _ _ c.put_kept_answer.ensures (ap answer_text c.kept_answer.ensures))
