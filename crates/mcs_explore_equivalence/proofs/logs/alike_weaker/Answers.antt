use Rattle.mcs_explore_equivalence.proofs.Exactly.{but-numbers}
use Rattle.mcs_explore_equivalence.proofs.logs.alike_weaker.Goals as goal

pub returns : goal.returns
returns g c = but-numbers g.at.0 g.at.1 c.requires
