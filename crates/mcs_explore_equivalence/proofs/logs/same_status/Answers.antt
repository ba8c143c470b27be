use Rattle.mcs_explore_equivalence.proofs.Exactly.{but-numbers}
use Rattle.mcs_explore_equivalence.proofs.Asking.{status-same}
use Rattle.mcs_explore_equivalence.proofs.logs.same_status.Goals as goal

pub returns : goal.returns
returns g c = status-same g.at.0 g.at.1 (but-numbers g.at.0 g.at.1 c.requires) g.at.2
