use Rattle.mcs_turns.proofs.OneTurn.{one-picks}
use Rattle.mcs_turns.proofs.laws.one_pick.Goals as goal

pub returns : goal.returns
returns g c = one-picks g.at.0 g.at.1 g.at.2 g.at.3 c.requires.0 c.requires.1
