use Rattle.mcs_plan_compile.proofs.Zeroed.{zeroed-all}
use Rattle.mcs_plan_compile.proofs.programs.without_values.Goals as goal

pub returns : goal.returns
returns c = zeroed-all c.args.words.now c.loop-i.plain.items c.loop-i.i c.loop-i-test.false c.loop-i.invariant
