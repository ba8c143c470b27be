use Rattle.std.proofs.Common.{ap, sym, ◌∙◌}
use Rattle.mcs_replies.specs.Links.{link_at}
use Rattle.mcs_replies.proofs.OwingLaws.{dropped, dropped-none}
use Rattle.mcs_replies.proofs.links.drop_links.Goals as goal

pub returns-in-Some-link_in-clause-chains : goal.returns-in-Some-link_in-clause-chains
returns-in-Some-link_in-clause-chains c = λ s.
    c.cut.ensures.cancelled.chains s
    ∙ dropped c.args.links.now.items c.args.tops.now c.in-Some.place.0 c.in-Some-link_in.link c.args.context c.requires
    (ap (λ ls. link_at ls c.in-Some.place.0) (sym c.deref.ensures.value) ∙ sym c.in-Some-link_in.ensures)
    (sym c.in-Some.ensures) s

pub returns-in_default-clause-chains : goal.returns-in_default-clause-chains
returns-in_default-clause-chains c = dropped-none c.args.links.now.items c.args.tops.now c.args.context (sym c.in_default.ensures)
