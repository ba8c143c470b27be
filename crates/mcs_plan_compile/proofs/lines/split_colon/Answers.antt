use Rattle.mcs_plan_compile.proofs.Colons.{cut_is}
use Rattle.mcs_plan_compile.proofs.lines.split_colon.Goals as goal

pub returns : goal.returns
returns c = cut_is c.args.text.now c.split_once.result c.split_once.ensures.cases
