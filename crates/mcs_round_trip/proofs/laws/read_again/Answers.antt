use Rattle.mcs_round_trip.proofs.ReadAgain.{legal-again}
use Rattle.mcs_round_trip.proofs.laws.read_again.Goals as goal

pub returns : goal.returns
returns g c = legal-again g.book c.requires
