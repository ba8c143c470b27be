use Rattle.mcs_text.proofs.StepsWritten.{step-written}
use Rattle.mcs_text.proofs.laws.step_is_written_again.Goals as goal

pub returns : goal.returns
returns c cores threads line s h = step-written cores threads line s h
