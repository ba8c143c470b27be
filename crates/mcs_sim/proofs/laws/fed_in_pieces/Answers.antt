use Rattle.mcs_sim.proofs.FeedLaws.{fed-append}
use Rattle.mcs_sim.proofs.laws.fed_in_pieces.Goals as goal

pub returns : goal.returns
returns g c = fed-append g.at.0 g.at.1 g.at.2
