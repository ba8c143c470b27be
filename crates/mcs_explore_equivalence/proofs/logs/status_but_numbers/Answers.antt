use Rattle.mcs_explore_equivalence.proofs.Asking.{status-same}
use Rattle.mcs_explore_equivalence.proofs.logs.status_but_numbers.Goals as goal

pub returns : goal.returns
returns g c = status-same g.at.0 g.at.1 c.requires g.at.2
