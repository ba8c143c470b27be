use Rattle.std.proofs.Common.{cond, None, ap, ◌∙◌}
use Rattle.mcs_replies.specs.Places.{place_number}
use Rattle.mcs_replies.specs.Links.{is_at, with_below}
use Rattle.mcs_replies.proofs.Leaving.{lower-apart, cut-cancelled, cut-deleted}
use Rattle.mcs_replies.proofs.links.cut.Goals as goal

pub clear-requires : goal.clear-requires
clear-requires c = lower-apart c.args.links.now.items c.args.links.now.items c.args.tops.now c.args.tops.now c.args.place.0 c.args.link c.requires.sound c.requires.at

pub returns-clause-cancelled : goal.returns-clause-cancelled
returns-clause-cancelled c =
    cut-cancelled c.args.links.now.items c.set_below.new.links.items c.args.tops.now c.cut_top.new.tops c.args.place.0 c.args.link c.requires.sound c.requires.at
    (c.set_below.ensures.places ∙ c.clear.ensures.places ∙ c.requires.sound.places)
    (λ u. c.set_below.ensures.below u ∙ ap (λ o. cond (is_at (place_number c.args.link.above) u) (with_below None o) o) (c.clear.ensures.clears u))
    c.cut_top.ensures

pub returns-clause-deleted : goal.returns-clause-deleted
returns-clause-deleted c =
    cut-deleted c.args.links.now.items c.set_below.new.links.items c.args.tops.now c.cut_top.new.tops c.args.place.0 c.args.link c.requires.sound c.requires.at
    (c.set_below.ensures.places ∙ c.clear.ensures.places ∙ c.requires.sound.places)
    (λ u. c.set_below.ensures.below u ∙ ap (λ o. cond (is_at (place_number c.args.link.above) u) (with_below None o) o) (c.clear.ensures.clears u))
    c.cut_top.ensures
