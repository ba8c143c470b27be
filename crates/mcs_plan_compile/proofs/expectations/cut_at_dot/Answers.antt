use Rattle.mcs_plan_compile.proofs.Answered.{cut_is}
use Rattle.mcs_plan_compile.proofs.expectations.cut_at_dot.Goals as goal

pub returns : goal.returns
returns c = cut_is c.args.word.now c.rsplit_once.result c.rsplit_once.ensures.cases
