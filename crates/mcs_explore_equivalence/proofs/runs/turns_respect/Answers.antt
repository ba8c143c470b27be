use Rattle.mcs_explore_equivalence.proofs.Alikes.{likeness, same-turns}
use Rattle.mcs_explore_equivalence.proofs.runs.turns_respect.Goals as goal

pub returns-clause-turns : goal.returns-clause-turns
returns-clause-turns g c = same-turns g.at.0 g.at.1 g.at.2 c.requires.0 c.requires.1

pub returns-clause-likeness : goal.returns-clause-likeness
returns-clause-likeness g c = likeness g.at.0 g.at.1 g.at.2 c.requires.0 c.requires.1
