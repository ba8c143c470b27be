use Rattle.std.proofs.Common.{ap, sym, ◌∙◌}
use Rattle.mcs_replies.specs.Links.{link_at}
use Rattle.mcs_replies.proofs.WalkLaws.{map-missing, map-written}
use Rattle.mcs_replies.proofs.links.set_below.Goals as goal

pub returns-in_default-link_in-clause-below : goal.returns-in_default-link_in-clause-below
returns-in_default-link_in-clause-below c = λ u.
    let at = c.deref.ensures.value in
    rw c.in-Some.is (map-missing (λ l. record l { below = c.args.below }) (link_at c.args.links.now.items) c.in-Some.place.0 u (ap (λ ls. link_at ls c.in-Some.place.0) (sym at) ∙ sym c.in_default-link_in.ensures))

pub returns-clause-below : goal.returns-clause-below
returns-clause-below c = λ u.
    let at = c.deref.ensures.value in
    rw c.in-Some.is (map-written (λ l. record l { below = c.args.below }) (link_at c.args.links.now.items) (link_at c.put.new.links.items) c.in-Some.place.0 u c.in-Some-link_in.link (ap (λ ls. link_at ls c.in-Some.place.0) (sym at) ∙ sym c.in-Some-link_in.ensures) (c.put.ensures.writes u))
