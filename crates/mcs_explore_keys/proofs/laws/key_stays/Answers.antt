use Rattle.mcs_explore_rows.proofs.Naming.{key-kept}
use Rattle.mcs_explore_keys.proofs.laws.key_stays.Goals as goal

pub returns : goal.returns
returns g c = key-kept g.at.0 g.at.1 g.at.2 g.at.3 g.at.4 g.at.5 c.requires.0 c.requires.1
