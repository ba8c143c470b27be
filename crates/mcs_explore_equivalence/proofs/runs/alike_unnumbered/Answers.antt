use Rattle.mcs_explore_equivalence.proofs.Alikes.{unnumbered-alike}
use Rattle.mcs_explore_equivalence.proofs.runs.alike_unnumbered.Goals as goal

pub returns : goal.returns
returns g c = unnumbered-alike g.at.0 g.at.1 g.at.2 g.at.3 c.requires
