use Rattle.mcs_explore_equivalence.proofs.Exactly.{exact-alike}
use Rattle.mcs_explore_equivalence.proofs.logs.alike_entry.Goals as goal

pub returns : goal.returns
returns g c = exact-alike g.at.0 g.at.1 g.at.2 g.at.3 g.at.4 c.requires.0 c.requires.1.0 c.requires.1.1.0 c.requires.1.1.1
