use Rattle.mcs_explore_rows.proofs.Deciding.{rows-alike}
use Rattle.mcs_explore_rows.proofs.Naming.{key-one}
use Rattle.mcs_explore_keys.proofs.laws.key_decides.Goals as goal

pub returns : goal.returns
returns g c = rows-alike g.at.0 g.at.1 g.at.2 c.requires.0 c.requires.1.0 g.at.3 g.at.4 c.requires.1.1.0 c.requires.1.1.1.0 (key-one g.at.0 g.at.5 g.at.1 g.at.3 g.at.4 g.at.6 c.requires.1.1.1.1.0 c.requires.1.1.1.1.1)
