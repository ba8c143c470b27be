use Rattle.mcs_sim.proofs.FeedScripts.{fed-as-read}
use Rattle.mcs_sim.proofs.laws.fed_as_read.Goals as goal

pub returns : goal.returns
returns g c = fed-as-read g.text
