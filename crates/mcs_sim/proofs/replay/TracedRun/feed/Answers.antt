use Rattle.std.proofs.Common.{List, ℕ, ◌+◌, [], ◌∷◌, ◌++◌, inl, refl, ap, sym, subst, ◌∙◌, take, drop, append_assoc}
use Rattle.std.proofs.lemmas.List.{take_rest}
use Rattle.mcs_phases.specs.Feeds.{FeedState, fed, Takes}
use Rattle.mcs_sim.proofs.FeedTakes.{takes-append, takes-split, takes-stopped, takes-longer, answer-err, answer-ok, line-cut}
use Rattle.mcs_sim.proofs.SimulateLaws.{tells-none, tells-then, tells-longer}
use Rattle.mcs_sim.proofs.replay.TracedRun.feed.Goals as goal

pub loop-i-init : goal.loop-i-init
unfolding fed
loop-i-init g c = record {
  goes = c.requires.goes;
  reached = ([], refl, inl refl);
  puts = tells-none g.W.Write.contents c.args.to.now c.args.self.now.course.stands.book;
}

pub returns-in_err-end_line-clause-takes : goal.returns-in_err-end_line-clause-takes
returns-in_err-end_line-clause-takes g c =
    let reached = c.loop-i.invariant.reached in
    let found = c.in-Some.ensures in
    let cut = line-cut c.loop-i.rest.now c.in-Some.i found.0.high found.1 in
    let stopped = takes-stopped c.end_line.new.self c.in_err-end_line.field-0.0 (drop (c.in-Some.i + 1) c.loop-i.rest.now) (answer-err _ _ (sym c.in_err-end_line.was ∙ c.end_line.ensures.answer)) in
    takes-split c.args.self.now c.loop-i.self c.end_line.new.self c.args.piece.now reached.0 c.loop-i.rest.now reached.1 reached.2
    (takes-split c.loop-i.self c.end_line.new.self c.end_line.new.self c.loop-i.rest.now (take c.in-Some.i c.loop-i.rest.now ++ 10 ∷ []) (drop (c.in-Some.i + 1) c.loop-i.rest.now) cut c.end_line.ensures.takes stopped)

pub returns-in_err-end_line-clause-puts : goal.returns-in_err-end_line-clause-puts
returns-in_err-end_line-clause-puts g c =
    tells-then g.W.Write.contents c.args.to.now c.loop-i.to c.end_line.new.to c.args.self.now.course.stands.book c.loop-i.self.course.stands.book c.end_line.new.self.course.stands.book
    c.loop-i.invariant.puts c.end_line.ensures.puts

pub loop-i-preserved : goal.loop-i-preserved
loop-i-preserved g c =
    let reached = c.loop-i.invariant.reached in
    let found = c.in-Some.ensures in
    let cut = line-cut c.loop-i.rest.now c.in-Some.i found.0.high found.1 in
    let line = take c.in-Some.i c.loop-i.rest.now ++ 10 ∷ [] in
    let split = reached.1 ∙ ap (λ (l : List ℕ). reached.0 ++ l) cut ∙ sym (append_assoc reached.0 line (drop (c.in-Some.i + 1) c.loop-i.rest.now))
    ∙ ap (λ (l : List ℕ). (reached.0 ++ line) ++ l) (sym (take_rest c.loop-i.rest.now (c.in-Some.i + 1))) in
    record {
      goes = answer-ok _ _ (sym c.in_ok-end_line.was ∙ c.end_line.ensures.answer);
      reached = (reached.0 ++ line, split, takes-append c.args.self.now c.loop-i.self c.end_line.new.self reached.0 line reached.2 c.end_line.ensures.takes);
      puts = tells-then g.W.Write.contents c.args.to.now c.loop-i.to c.end_line.new.to c.args.self.now.course.stands.book c.loop-i.self.course.stands.book c.end_line.new.self.course.stands.book
          c.loop-i.invariant.puts c.end_line.ensures.puts;
    }

pub put_more-requires : goal.put_more-requires
put_more-requires g c =
    record { written = (c.self.inside.run.course.stands.book, c.self.invariant, takes-longer c.self.inside.run c.loop-i.rest.now c.keep-taken.new.self c.keep-taken.ensures.takes) }

pub returns-clause-takes : goal.returns-clause-takes
returns-clause-takes g c =
    let reached = c.loop-i.invariant.reached in
    takes-split c.args.self.now c.loop-i.self c.keep-taken.new.self c.args.piece.now reached.0 c.loop-i.rest.now reached.1 reached.2
    (subst (λ (g : FeedState). Takes g c.loop-i.rest.now c.keep-taken.new.self) c.self.view_is c.keep-taken.ensures.takes)

pub returns-clause-puts : goal.returns-clause-puts
returns-clause-puts g c =
    tells-then g.W.Write.contents c.args.to.now c.loop-i.to c.put_more.new.to c.args.self.now.course.stands.book c.loop-i.self.course.stands.book c.keep-taken.new.self.course.stands.book
    c.loop-i.invariant.puts
    (tells-longer g.W.Write.contents c.self.inside.written c.self.inside.run c.loop-i.self c.keep-taken.new.self c.loop-i.to c.put_more.new.to c.self.view_is c.self.invariant
    (takes-longer c.self.inside.run c.loop-i.rest.now c.keep-taken.new.self c.keep-taken.ensures.takes) c.put_more.ensures.puts)
