use Rattle.mcs_boots.proofs.Booting.{boots}
use Rattle.mcs_boots.proofs.boot.Boot.add.Goals as goal

pub check-requires : goal.check-requires
check-requires c = boots c.self.inside.state c.self.invariant.0 c.self.invariant.1
