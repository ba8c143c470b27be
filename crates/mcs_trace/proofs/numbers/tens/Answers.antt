use Rattle.mcs_trace.proofs.Digits.{pair-at}
use Rattle.mcs_trace.proofs.numbers.tens.Goals as goal

pub returns : goal.returns
returns c = (pair-at c.args.n c.requires).0
