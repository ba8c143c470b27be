use Rattle.std.proofs.Common.{cond, None, ap, ◌∙◌}
use Rattle.mcs_replies.specs.Places.{place_number}
use Rattle.mcs_replies.specs.Links.{is_at, with_above}
use Rattle.mcs_replies.proofs.Leaving.{popped}
use Rattle.mcs_replies.proofs.ChangeLaws.{popped-changes}
use Rattle.mcs_replies.proofs.links.pop.Goals as goal

pub returns-clause-ends : goal.returns-clause-ends
returns-clause-ends c =
    popped c.args.links.now.items c.set_above.new.links.items c.args.tops.now c.move_to.new.self c.args.place.0 c.args.link c.requires.sound c.requires.at (ap place_number c.requires.top)
    (c.set_above.ensures.places ∙ c.take.ensures.places ∙ c.requires.sound.places)
    (λ u. c.set_above.ensures.above u ∙ ap (λ o. cond (is_at (place_number c.args.link.below) u) (with_above None o) o) (c.take.ensures.writes u))
    c.move_to.ensures

pub returns-clause-changes : goal.returns-clause-changes
returns-clause-changes c =
    rw (c.move_to.ensures, c.set_above.ensures.items, c.take.ensures.items) (popped-changes c.args.links.now.items c.args.tops.now c.args.place.0 c.args.link.context c.args.link.below c.requires.sound.tops)
