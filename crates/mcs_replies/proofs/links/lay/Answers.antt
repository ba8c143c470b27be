use Rattle.std.proofs.Common.{cond, Some, None, nat_eq, ap, ◌∙◌}
use Rattle.mcs_replies.proofs.Walking.{laid-chains, laid-sound}
use Rattle.mcs_replies.proofs.links.lay.Goals as goal

pub returns-clause-sound : goal.returns-clause-sound
returns-clause-sound c =
    laid-sound c.args.links.now.items c.put.new.links.items c.args.tops.now c.move_to.new.self c.args.place.0 c.args.context c.args.reply c.top-below.result c.top-below.ensures c.requires.sound c.requires.free
    (c.put.ensures.places ∙ c.set_above.ensures.places ∙ c.requires.sound.places)
    (λ u. c.put.ensures.writes u ∙ ap (λ o. cond (nat_eq c.args.place.0 u) (Some (record { context = c.args.context; reply = c.args.reply; above = None; below = c.top-below.result })) o) (c.set_above.ensures.above u))
    c.move_to.ensures
    c.requires.out

pub returns-clause-chains : goal.returns-clause-chains
returns-clause-chains c =
    laid-chains c.args.links.now.items c.put.new.links.items c.args.tops.now c.move_to.new.self c.args.place.0 c.args.context c.args.reply c.top-below.result c.top-below.ensures c.requires.sound c.requires.free
    (c.put.ensures.places ∙ c.set_above.ensures.places ∙ c.requires.sound.places)
    (λ u. c.put.ensures.writes u ∙ ap (λ o. cond (nat_eq c.args.place.0 u) (Some (record { context = c.args.context; reply = c.args.reply; above = None; below = c.top-below.result })) o) (c.set_above.ensures.above u))
    c.move_to.ensures
