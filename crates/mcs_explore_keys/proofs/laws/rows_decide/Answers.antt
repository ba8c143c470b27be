use Rattle.mcs_explore_rows.proofs.Deciding.{rows-alike}
use Rattle.mcs_explore_keys.proofs.laws.rows_decide.Goals as goal

pub returns : goal.returns
returns g c = rows-alike g.at.0 g.at.1 g.at.2 c.requires.0 c.requires.1.0 g.at.3 g.at.4 c.requires.1.1.0 c.requires.1.1.1.0 c.requires.1.1.1.1
