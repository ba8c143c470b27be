use Rattle.mcs_explore_equivalence.proofs.Alikes.{alike-back}
use Rattle.mcs_explore_equivalence.proofs.runs.alike_back.Goals as goal

pub returns : goal.returns
returns g c = alike-back g.at.0 g.at.1 g.at.2 g.at.3 g.at.4 c.requires
