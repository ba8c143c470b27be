use Rattle.mcs_explore_equivalence.proofs.Exactly.{exact-after}
use Rattle.mcs_explore_equivalence.proofs.logs.alike_after.Goals as goal

pub returns : goal.returns
returns g c = exact-after g.at.0 g.at.1 g.at.2 c.requires.0 c.requires.1.0 c.requires.1.1
