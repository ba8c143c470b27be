use Rattle.mcs_explore_equivalence.proofs.RunState.{but-on}
use Rattle.mcs_explore_equivalence.proofs.logs.on_but_numbers.Goals as goal

pub returns : goal.returns
returns g c = but-on g.at.0 g.at.1 g.at.2 c.requires.0 c.requires.1
