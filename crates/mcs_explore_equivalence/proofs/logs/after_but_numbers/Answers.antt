use Rattle.mcs_explore_equivalence.proofs.Entries.{entry-alike}
use Rattle.mcs_explore_equivalence.proofs.logs.after_but_numbers.Goals as goal

pub returns : goal.returns
returns g c = entry-alike g.at.0 g.at.1 g.at.2 g.at.3 g.at.4 c.requires.0 c.requires.1.0 c.requires.1.1.0 c.requires.1.1.1
