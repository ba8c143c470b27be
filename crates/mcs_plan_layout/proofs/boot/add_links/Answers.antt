use Rattle.std.proofs.Common.{rules}
use Rattle.mcs_plan_layout.proofs.Adding.{each_turn}
use Rattle.mcs_plan_layout.proofs.boot.add_links.Goals as goal

pub loop-leaf-preserved : goal.loop-leaf-preserved
loop-leaf-preserved c = search (rules, each_turn)
