use Rattle.std.proofs.Common.{rules}
use Rattle.mcs_plan_layout.proofs.Adding.{same_turn}
use Rattle.mcs_plan_layout.proofs.boot.add_times.Goals as goal

pub loop-preserved : goal.loop-preserved
loop-preserved c = search (rules, same_turn)
