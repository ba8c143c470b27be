use Rattle.mcs_explore_equivalence.proofs.Likenesses.{by-likeness}
use Rattle.mcs_explore_equivalence.proofs.logs.steps_respect.Goals as goal

pub returns : goal.returns
returns g c = by-likeness g.at
