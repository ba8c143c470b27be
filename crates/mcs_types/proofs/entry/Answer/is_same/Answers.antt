use Rattle.mcs_types.proofs.Same.{told_same}
use Rattle.mcs_types.proofs.SameEntries.{answer_tells}
use Rattle.mcs_types.proofs.entry.Answer.is_same.Goals as goal

pub returns : goal.returns
returns c = told_same answer_tells c.args.self.now c.args.answer.now c.eq.ensures
