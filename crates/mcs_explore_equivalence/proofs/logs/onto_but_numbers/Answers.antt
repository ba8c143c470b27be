use Rattle.mcs_explore_equivalence.proofs.Adding.{alike-onto}
use Rattle.mcs_explore_equivalence.proofs.logs.onto_but_numbers.Goals as goal

pub returns : goal.returns
returns g c = alike-onto g.at.0 g.at.1 g.at.2 g.at.3 c.requires.0 c.requires.1.0 c.requires.1.1.0 c.requires.1.1.1
