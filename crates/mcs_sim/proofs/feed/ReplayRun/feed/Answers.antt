use Rattle.std.proofs.Common.{List, ℕ, ◌+◌, [], ◌∷◌, ◌++◌, inl, refl, ap, sym, ◌∙◌, take, drop, append_assoc}
use Rattle.std.proofs.lemmas.List.{take_rest}
use Rattle.mcs_phases.specs.Feeds.{FeedState, fed}
use Rattle.mcs_sim.proofs.FeedTakes.{takes-append, takes-split, takes-stopped, answer-err, answer-ok, line-cut}
use Rattle.mcs_sim.proofs.feed.ReplayRun.feed.Goals as goal

pub returns-in-Some-clause-takes : goal.returns-in-Some-clause-takes
returns-in-Some-clause-takes c = takes-stopped c.args.self.now c.in-Some.fault c.args.piece.now (sym (ap (λ (g : FeedState). g.course.fault) c.self.view_is) ∙ c.in-Some.is)

pub loop-i-init : goal.loop-i-init
unfolding fed
loop-i-init c = record {
  goes = sym (ap (λ (g : FeedState). g.course.fault) c.self.view_is) ∙ c.in_default.is;
  reached = ([], refl, inl refl);
}

pub returns-in_err-end_line-clause-takes : goal.returns-in_err-end_line-clause-takes
returns-in_err-end_line-clause-takes c =
    let reached = c.loop-i.invariant.reached in
    let found = c.in-Some-memchr.ensures in
    let cut = line-cut c.loop-i.rest.now c.in-Some-memchr.i found.0.high found.1 in
    let stopped = takes-stopped c.end_line.new.self c.in_err-end_line.field-0.0 (drop (c.in-Some-memchr.i + 1) c.loop-i.rest.now) (answer-err _ _ (sym c.in_err-end_line.was ∙ c.end_line.ensures.answer)) in
    takes-split c.args.self.now c.loop-i.self c.end_line.new.self c.args.piece.now reached.0 c.loop-i.rest.now reached.1 reached.2
    (takes-split c.loop-i.self c.end_line.new.self c.end_line.new.self c.loop-i.rest.now (take c.in-Some-memchr.i c.loop-i.rest.now ++ 10 ∷ []) (drop (c.in-Some-memchr.i + 1) c.loop-i.rest.now) cut c.end_line.ensures.takes stopped)

pub loop-i-preserved : goal.loop-i-preserved
loop-i-preserved c =
    let reached = c.loop-i.invariant.reached in
    let found = c.in-Some-memchr.ensures in
    let cut = line-cut c.loop-i.rest.now c.in-Some-memchr.i found.0.high found.1 in
    let line = take c.in-Some-memchr.i c.loop-i.rest.now ++ 10 ∷ [] in
    let split = reached.1 ∙ ap (λ (l : List ℕ). reached.0 ++ l) cut ∙ sym (append_assoc reached.0 line (drop (c.in-Some-memchr.i + 1) c.loop-i.rest.now))
    ∙ ap (λ (l : List ℕ). (reached.0 ++ line) ++ l) (sym (take_rest c.loop-i.rest.now (c.in-Some-memchr.i + 1))) in
    record {
      goes = answer-ok _ _ (sym c.in_ok-end_line.was ∙ c.end_line.ensures.answer);
      reached = (reached.0 ++ line, split, takes-append c.args.self.now c.loop-i.self c.end_line.new.self reached.0 line reached.2 c.end_line.ensures.takes);
    }

pub returns-clause-takes : goal.returns-clause-takes
returns-clause-takes c =
    let reached = c.loop-i.invariant.reached in
    takes-split c.args.self.now c.loop-i.self c.keep.new.self c.args.piece.now reached.0 c.loop-i.rest.now reached.1 reached.2 c.keep.ensures.takes
