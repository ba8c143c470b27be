use Rattle.mcs_round_trip.proofs.ReadAgain.{legal-written}
use Rattle.mcs_round_trip.proofs.laws.written_again.Goals as goal

pub returns : goal.returns
returns g c = legal-written g.book c.requires
