use Rattle.std.proofs.Common.{ap, sym, ◌∙◌}
use Rattle.mcs_replies.specs.Links.{link_at}
use Rattle.mcs_replies.proofs.WalkLaws.{map-missing, map-written}
use Rattle.mcs_replies.proofs.links.set_above.Goals as goal

pub returns-in_default-link_in-clause-above : goal.returns-in_default-link_in-clause-above
returns-in_default-link_in-clause-above c = λ u.
    let at = c.deref.ensures.value in
    rw c.in-Some.is (map-missing (λ l. record l { above = c.args.above }) (link_at c.args.links.now.items) c.in-Some.place.0 u (ap (λ ls. link_at ls c.in-Some.place.0) (sym at) ∙ sym c.in_default-link_in.ensures))

pub returns-clause-above : goal.returns-clause-above
returns-clause-above c = λ u.
    let at = c.deref.ensures.value in
    rw c.in-Some.is (map-written (λ l. record l { above = c.args.above }) (link_at c.args.links.now.items) (link_at c.put.new.links.items) c.in-Some.place.0 u c.in-Some-link_in.link (ap (λ ls. link_at ls c.in-Some.place.0) (sym at) ∙ sym c.in-Some-link_in.ensures) (c.put.ensures.writes u))
