use Rattle.mcs_explore_equivalence.proofs.Answering.{answers-alike}
use Rattle.mcs_explore_equivalence.proofs.Asked.{answer-all}
use Rattle.mcs_explore_equivalence.proofs.logs.answers_but_numbers.Goals as goal

pub returns : goal.returns
returns g c = answers-alike g.at.0 g.at.1 c.requires.0 c.requires.1.0 (answer-all g.at.0 g.at.1 c.requires.0 c.requires.1.0 c.requires.1.1)
