use Rattle.mcs_explore_equivalence.proofs.ExactBooks.{exact-legal}
use Rattle.mcs_explore_equivalence.proofs.logs.same_line.Goals as goal

pub returns : goal.returns
returns g c = exact-legal g.at.0 g.at.1 g.at.2 c.requires.0 c.requires.1.0 c.requires.1.1
