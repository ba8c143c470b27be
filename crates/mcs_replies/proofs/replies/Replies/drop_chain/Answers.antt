use Rattle.std.proofs.Common.{ap, [], ◌∙◌}
use Rattle.mcs_types.specs.Ids.{value_after}
use Rattle.mcs_replies.specs.Owing.{chain_in}
use Rattle.mcs_replies.proofs.replies.Replies.drop_chain.Goals as goal

pub invariant_of-self : goal.invariant_of-self
invariant_of-self c =
    let all = c.self.invariant in
    record {
      room = all.room;
      kind = all.kind;
      sound = c.drop_links.ensures.sound;
      owners = λ u q h. all.owners u q (c.drop_links.ensures.others u q h);
      owing = λ u q h. all.owing u q (c.drop_links.ensures.others u q h);
    }

pub returns-clause-chains : goal.returns-clause-chains
returns-clause-chains c = λ s. c.drop_links.ensures.chains s ∙ ap (λ v. value_after s c.args.context [] (chain_in v s)) c.self.view_is
