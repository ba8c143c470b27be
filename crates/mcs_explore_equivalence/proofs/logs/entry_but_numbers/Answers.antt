use Rattle.mcs_book.specs.Table.{does}
use Rattle.mcs_explore_equivalence.proofs.Acting.{out-same}
use Rattle.mcs_explore_equivalence.proofs.Entries.{entry-same}
use Rattle.mcs_explore_equivalence.proofs.logs.entry_but_numbers.Goals as goal

pub returns : goal.returns
returns g c = out-same g.at.0 g.at.1 (does g.at.0 g.at.2 g.at.3 g.at.4) (does g.at.1 g.at.2 g.at.3 g.at.4) (entry-same g.at.0 g.at.1 g.at.2 g.at.3 g.at.4 c.requires.0 c.requires.1.0 c.requires.1.1.0 c.requires.1.1.1)
