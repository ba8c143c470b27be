use Rattle.std.proofs.Common.{ap, ◌∙◌}
use Rattle.mcs_replies.specs.Places.{place_number}
use Rattle.mcs_replies.specs.Links.{link_at, walk, replies_of}
use Rattle.mcs_replies.specs.Owing.{chain_in}
use Rattle.mcs_replies.proofs.replies.Replies.chain_of.Goals as goal

pub returns : goal.returns
returns c =
    let ls = c.self.inside.links.items in
    ap (λ zs. replies_of (link_at zs) (walk (link_at zs) 256 (place_number c.top.result))) c.deref.ensures.value
    ∙ ap (λ o. replies_of (link_at ls) (walk (link_at ls) 256 o)) c.top.ensures
    ∙ ap (λ v. chain_in v c.args.context) c.self.view_is
