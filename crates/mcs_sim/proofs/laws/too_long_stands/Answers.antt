use Rattle.mcs_phases.specs.Script.{of_steps, of_users}
use Rattle.mcs_sim.proofs.LongLaws.{long-stands}
use Rattle.mcs_sim.proofs.laws.too_long_stands.Goals as goal

pub returns-clause-steps : goal.returns-clause-steps
returns-clause-steps g c = long-stands of_steps g.at.0 g.at.1 c.requires

pub returns-clause-users : goal.returns-clause-users
returns-clause-users g c = λ asked. long-stands (of_users asked) g.at.0 g.at.1 c.requires
