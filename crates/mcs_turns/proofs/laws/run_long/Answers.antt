use Rattle.mcs_turns.proofs.RunLaws.{run-long}
use Rattle.mcs_turns.proofs.laws.run_long.Goals as goal

pub returns : goal.returns
returns g c = let l = run-long g.at.0 g.at.1 g.at.2 g.at.3 c.requires in record { boot = l.kept; lines = l.lines; places = l.places; stale = l.stale }
