use Rattle.mcs_explore_equivalence.proofs.Picking.{pick-same}
use Rattle.mcs_explore_equivalence.proofs.logs.pick_but_numbers.Goals as goal

pub returns : goal.returns
returns g c = pick-same g.at.0 g.at.1 c.requires.0 g.at.2 g.at.3 g.at.4 c.requires.1
