use Rattle.mcs_turns.proofs.OneTurn.{one-turn}
use Rattle.mcs_turns.proofs.laws.one_turn.Goals as goal

pub returns : goal.returns
returns g c = one-turn g.at.0 g.at.1 g.at.2 g.at.3 g.at.4 g.at.5 c.requires.0 c.requires.1
