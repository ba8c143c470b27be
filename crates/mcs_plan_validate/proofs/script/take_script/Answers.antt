use Rattle.std.proofs.Common.{sym, subst, ◌∙◌}
use Rattle.mcs_phases.specs.Feeds.{FeedState, Takes}
use Rattle.mcs_plan_validate.proofs.Taken.{taken}
use Rattle.mcs_plan_validate.proofs.script.take_script.Goals as goal

pub returns : goal.returns
returns c =
    taken c.args.text.now c.feed.new.self c.end.new.self
    (subst (λ (r : FeedState). Takes r c.args.text.now c.feed.new.self) c.in-Ok.ensures c.feed.ensures.takes)
    (sym c.feed.ensures.answer ∙ c.in_ok-feed.was) c.end.ensures.takes (sym c.end.ensures.answer ∙ c.in_ok-end.was)
