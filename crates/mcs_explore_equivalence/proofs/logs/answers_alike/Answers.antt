use Rattle.mcs_explore_equivalence.proofs.Answering.{answers-exact}
use Rattle.mcs_explore_equivalence.proofs.logs.answers_alike.Goals as goal

pub returns : goal.returns
returns g c = answers-exact g.at.0 g.at.1 c.requires.0 c.requires.1.0 c.requires.1.1
