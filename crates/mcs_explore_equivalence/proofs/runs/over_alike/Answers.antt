use Rattle.mcs_explore_equivalence.proofs.Alikes.{over-there}
use Rattle.mcs_explore_equivalence.proofs.runs.over_alike.Goals as goal

pub returns : goal.returns
returns g c = over-there g.at.0 g.at.1 g.at.2 g.at.3 g.at.4 c.requires.0 c.requires.1
