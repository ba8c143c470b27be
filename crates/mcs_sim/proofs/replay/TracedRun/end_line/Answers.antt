use Rattle.std.proofs.Common.{[], ◌∷◌, ◌++◌, ap, subst, ◌∙◌}
use Rattle.mcs_phases.specs.Feeds.{FeedState, Takes}
use Rattle.mcs_sim.proofs.FeedTakes.{takes-longer, line-whole}
use Rattle.mcs_sim.proofs.FeedLines.{line-read}
use Rattle.mcs_sim.proofs.SimulateLaws.{tells-longer}
use Rattle.mcs_sim.proofs.replay.TracedRun.end_line.Given.{Over}
use Rattle.mcs_sim.proofs.replay.TracedRun.end_line.Goals as goal
use Rattle.mcs_sim.proofs.replay.TracedRun.end_line.Goals.{After-take_line-taken}

-- a line that begins and ends here was taken whole
whole : (g : Over) (c : After-take_line-taken g) → Takes c.self.inside.run (c.args.part.now ++ 10 ∷ []) c.take_line-taken.new.self
whole g c =
    line-whole c.self.inside.run c.take_line-taken.new.self c.args.part.now (ap (λ (g : FeedState). g.course.fault) c.self.view_is ∙ c.requires.goes) c.requires.one_line (c.is_amid.ensures c.if-is_amid.false)
    c.take_line-taken.ensures.takes c.take_line-taken.ensures.begins

pub put_more-requires : goal.put_more-requires
put_more-requires g c =
    record { written = (c.self.inside.run.course.stands.book, c.self.invariant, takes-longer c.self.inside.run (c.args.part.now ++ 10 ∷ []) c.end_line-taken.new.self c.end_line-taken.ensures.takes) }

pub returns-then-is_amid-clause-puts : goal.returns-then-is_amid-clause-puts
returns-then-is_amid-clause-puts g c =
    tells-longer g.W.Write.contents c.self.inside.written c.self.inside.run c.args.self.now c.end_line-taken.new.self c.args.to.now c.put_more.new.to c.self.view_is c.self.invariant
    (takes-longer c.self.inside.run (c.args.part.now ++ 10 ∷ []) c.end_line-taken.new.self c.end_line-taken.ensures.takes) c.put_more.ensures.puts

pub put_line-requires-clause-written : goal.put_line-requires-clause-written
put_line-requires-clause-written g c =
    let run = c.self.inside.run in
    (run.course.stands.book, c.self.invariant, takes-longer run (c.args.part.now ++ 10 ∷ []) c.take_line-taken.new.self (whole g (goal.at.put_line-requires-clause-written g c).After-take_line-taken))

pub put_line-requires-clause-text : goal.put_line-requires-clause-text
put_line-requires-clause-text g c =
    line-read c.self.inside.run.course c.take_line-taken.new.self.course c.args.part.now c.self.inside.written c.take_line-taken.ensures.takes c.self.invariant

pub returns-clause-takes : goal.returns-clause-takes
returns-clause-takes g c =
    subst (λ (g : FeedState). Takes g (c.args.part.now ++ 10 ∷ []) c.take_line-taken.new.self) c.self.view_is (whole g (goal.at.returns-clause-takes g c).After-take_line-taken)

pub returns-clause-puts : goal.returns-clause-puts
returns-clause-puts g c =
    let run = c.self.inside.run in
    tells-longer g.W.Write.contents c.self.inside.written run c.args.self.now c.take_line-taken.new.self c.args.to.now c.put_line.new.to c.self.view_is c.self.invariant
    (takes-longer run (c.args.part.now ++ 10 ∷ []) c.take_line-taken.new.self (whole g (goal.at.returns-clause-puts g c).After-take_line-taken)) c.put_line.ensures.puts
