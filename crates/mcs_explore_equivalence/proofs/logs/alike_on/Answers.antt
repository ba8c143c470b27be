use Rattle.mcs_explore_equivalence.proofs.RunState.{alike-on}
use Rattle.mcs_explore_equivalence.proofs.logs.alike_on.Goals as goal

pub returns : goal.returns
returns g c = alike-on g.at.0 g.at.1 g.at.2 c.requires.0 c.requires.1
