use Rattle.std.proofs.Common.{ℕ, [], ◌∷◌, eqb, ap, sym, ◌∙◌}
use Rattle.mcs_phases.specs.Phases.{seen}
use Rattle.mcs_sim.proofs.FeedTakes.{is-going, empty-is, takes-append, takes-stopped, answer-err, answer-ok, line-whole, line-kept}
use Rattle.mcs_sim.proofs.feed.ReplayRun.end_line.Goals as goal

pub returns-then-is_empty-clause-takes : goal.returns-then-is_empty-clause-takes
returns-then-is_empty-clause-takes c =
    let going = is-going c.self.inside.fault (seen c.self.inside.phase) c.self.inside.lines c.self.inside.line.items c.args.self.now c.self.view_is c.requires.goes in
    let none = sym going.kept ∙ empty-is c.self.inside.line.items (ap (λ (n : ℕ). eqb n 0) (sym c.self.inside.line.ok.0) ∙ sym c.is_empty.ensures ∙ c.if-is_empty.true) in
    line-whole c.args.self.now c.take_line.new.self c.args.part.now c.requires.goes c.requires.one_line none c.take_line.ensures.takes c.take_line.ensures.begins

pub returns-in_err-keep-clause-takes : goal.returns-in_err-keep-clause-takes
returns-in_err-keep-clause-takes c =
    takes-append c.args.self.now c.keep.new.self c.keep.new.self c.args.part.now (10 ∷ []) c.keep.ensures.takes
    (takes-stopped c.keep.new.self c.in_err-keep.field-0.0 (10 ∷ []) (answer-err _ _ (sym c.in_err-keep.was ∙ c.keep.ensures.answer)))

pub returns-clause-takes : goal.returns-clause-takes
returns-clause-takes c =
    takes-append c.args.self.now c.keep.new.self c.take_kept.new.self c.args.part.now (10 ∷ []) c.keep.ensures.takes
    (line-kept c.keep.new.self c.take_kept.new.self (answer-ok _ _ (sym c.in_ok-keep.was ∙ c.keep.ensures.answer)) c.take_kept.ensures.takes c.take_kept.ensures.begins)
