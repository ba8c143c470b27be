use Rattle.std.proofs.Common.{rules}
use Rattle.mcs_plan_layout.proofs.Adding.{each_turn}
use Rattle.mcs_plan_layout.proofs.laid.PlanLayout.add_inner.Goals as goal

pub loop-index-preserved : goal.loop-index-preserved
loop-index-preserved c = search (rules, each_turn)
