use Rattle.mcs_explore_search.proofs.Runs.{near-run}
use Rattle.mcs_explore_search.proofs.likeness.near_run.Goals as goal

pub returns : goal.returns
returns g c = near-run g.L.Likeness.Step g.L.Likeness.Like c.is_likeness.ensures g.at.0 g.at.1 g.at.2 c.requires.1
