use Rattle.std.proofs.Common.{rules}
use Rattle.mcs_plan_layout.proofs.Adding.{first_turn}
use Rattle.mcs_plan_layout.proofs.laid.PlanLayout.table.Goals as goal

pub loop-index-preserved : goal.loop-index-preserved
loop-index-preserved c = search (rules, first_turn)
