use Rattle.mcs_explore_search.proofs.Runs.{every-run}
use Rattle.mcs_explore_search.proofs.likeness.every_run.Goals as goal

pub returns : goal.returns
returns g c = every-run g.L.Likeness.Step g.L.Likeness.Like c.is_likeness.ensures g.at.0 g.at.1 c.requires.1
