use Rattle.mcs_book.proofs.Books.ReplayLaws.{replayed-legal}
use Rattle.mcs_sim.proofs.laws.replayed_legal.Goals as goal

pub returns : goal.returns
returns g c = replayed-legal g.run.0 g.run.1 c.requires.0 c.requires.1
