use Rattle.mcs_explore_equivalence.proofs.Books.{line-alike}
use Rattle.mcs_explore_equivalence.proofs.logs.line_after_but_numbers.Goals as goal

pub returns : goal.returns
returns g c = line-alike g.at.0 g.at.1 g.at.2 c.requires.0 c.requires.1.0 c.requires.1.1
