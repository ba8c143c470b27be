use Rattle.mcs_turns.proofs.RunLaws.{run-legal}
use Rattle.mcs_turns.proofs.laws.run_legal.Goals as goal

pub returns : goal.returns
returns g c = run-legal g.at.0 g.at.1 c.requires.0 c.requires.1.0 g.at.2 g.at.3 c.requires.1.1
