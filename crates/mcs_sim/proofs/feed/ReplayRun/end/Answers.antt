use Rattle.std.proofs.Common.{List, ℕ, length, eqb, ap, sym, ◌∙◌}
use Rattle.mcs_phases.specs.Feeds.{FeedState}
use Rattle.mcs_phases.specs.Phases.{seen}
use Rattle.mcs_sim.proofs.FeedTakes.{is-going, empty-is, answer-err, answer-ok, end-stopped, end-line, end-boot, end-both}
use Rattle.mcs_sim.proofs.feed.ReplayRun.end.Goals as goal

pub returns-in-Some-clause-takes : goal.returns-in-Some-clause-takes
returns-in-Some-clause-takes c =
    end-stopped c.self.inside.fault (seen c.self.inside.phase) c.self.inside.lines c.self.inside.line.items c.args.self.now c.in-Some.ended c.self.view_is c.in-Some.is

pub returns-then-is_empty-clause-takes : goal.returns-then-is_empty-clause-takes
returns-then-is_empty-clause-takes c =
    let goes = sym (ap (λ (g : FeedState). g.course.fault) c.self.view_is) ∙ c.in_default.is in
    let going = is-going c.self.inside.fault (seen c.self.inside.phase) c.self.inside.lines c.self.inside.line.items c.args.self.now c.self.view_is goes in
    let none = sym going.kept ∙ empty-is c.self.inside.line.items (ap (λ (n : ℕ). eqb n 0) (sym c.self.inside.line.ok.0) ∙ sym c.is_empty.ensures ∙ c.if-is_empty.true) in
    end-boot c.args.self.now.course c.args.self.now.line c.end_boot.new.self goes none c.end_boot.ensures.ends c.end_boot.ensures.begins

pub returns-in_err-take_kept-clause-takes : goal.returns-in_err-take_kept-clause-takes
returns-in_err-take_kept-clause-takes c =
    let goes = sym (ap (λ (g : FeedState). g.course.fault) c.self.view_is) ∙ c.in_default.is in
    let going = is-going c.self.inside.fault (seen c.self.inside.phase) c.self.inside.lines c.self.inside.line.items c.args.self.now c.self.view_is goes in
    let some = ap (λ (l : List ℕ). eqb (length l) 0) (sym going.kept) ∙ ap (λ (n : ℕ). eqb n 0) (sym c.self.inside.line.ok.0) ∙ sym c.is_empty.ensures ∙ c.if-is_empty.false in
    end-line c.args.self.now.course c.args.self.now.line c.take_kept.new.self c.in_err-take_kept.field-0.0 goes some c.take_kept.ensures.takes c.take_kept.ensures.begins
    (answer-err _ _ (sym c.in_err-take_kept.was ∙ c.take_kept.ensures.answer))

pub returns-clause-takes : goal.returns-clause-takes
returns-clause-takes c =
    let goes = sym (ap (λ (g : FeedState). g.course.fault) c.self.view_is) ∙ c.in_default.is in
    let going = is-going c.self.inside.fault (seen c.self.inside.phase) c.self.inside.lines c.self.inside.line.items c.args.self.now c.self.view_is goes in
    let some = ap (λ (l : List ℕ). eqb (length l) 0) (sym going.kept) ∙ ap (λ (n : ℕ). eqb n 0) (sym c.self.inside.line.ok.0) ∙ sym c.is_empty.ensures ∙ c.if-is_empty.false in
    end-both c.args.self.now.course c.take_kept.new.self.course c.args.self.now.line c.end_boot-2.new.self goes some c.take_kept.ensures.takes
    (answer-ok _ _ (sym c.in_ok-take_kept.was ∙ c.take_kept.ensures.answer)) c.end_boot-2.ensures.ends c.end_boot-2.ensures.begins
