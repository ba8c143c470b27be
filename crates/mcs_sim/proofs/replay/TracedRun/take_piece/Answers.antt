use Rattle.mcs_sim.proofs.SimulateLaws.{tells-sent}
use Rattle.mcs_sim.proofs.replay.TracedRun.take_piece.Goals as goal

pub returns-then-is_broken-clause-puts : goal.returns-then-is_broken-clause-puts
returns-then-is_broken-clause-puts g c =
    tells-sent g.W.Write.contents c.args.to.now c.put_piece-taken.new.to c.flush.new.self c.args.self.now.course.stands.book c.put_piece-taken.new.self.course.stands.book
    c.put_piece-taken.ensures.puts c.flush.ensures.puts

pub returns-clause-puts : goal.returns-clause-puts
returns-clause-puts g c =
    tells-sent g.W.Write.contents c.args.to.now c.put_piece-taken.new.to c.flush.new.self c.args.self.now.course.stands.book c.put_piece-taken.new.self.course.stands.book
    c.put_piece-taken.ensures.puts c.flush.ensures.puts
