use Rattle.mcs_sim.proofs.FeedTakes.{piece-longer}
use Rattle.mcs_sim.proofs.SimulateLaws.{tells-longer}
use Rattle.mcs_sim.proofs.replay.TracedRun.put_piece.Goals as goal

pub put_more-requires : goal.put_more-requires
put_more-requires g c =
    record { written = (c.self-2.inside.run.course.stands.book, c.self-2.invariant, piece-longer c.self-2.inside.run c.args.piece.now c.take_piece-taken.new.self c.take_piece-taken.ensures.takes) }

pub returns-clause-puts : goal.returns-clause-puts
returns-clause-puts g c =
    tells-longer g.W.Write.contents c.self-2.inside.written c.self-2.inside.run c.args.self.now c.take_piece-taken.new.self c.args.to.now c.put_more.new.to c.self-2.view_is c.self-2.invariant
    (piece-longer c.self-2.inside.run c.args.piece.now c.take_piece-taken.new.self c.take_piece-taken.ensures.takes) c.put_more.ensures.puts
