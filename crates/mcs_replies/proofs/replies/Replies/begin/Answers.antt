use Rattle.std.proofs.Common.{◌<◌, ap, sym, cond, ◌∙◌, ◌∷◌, subst}
use Rattle.mcs_types.specs.Ids.{same}
use Rattle.mcs_types.specs.Limits.{object_limit}
use Rattle.mcs_replies.specs.Links.{linked_of}
use Rattle.mcs_replies.specs.Owing.{chain_in, chain_with}
use Rattle.mcs_replies.proofs.OwingLaws.{free-out, free-link, few-tops, same-sym}
use Rattle.mcs_replies.proofs.replies.Replies.begin.Goals as goal

pub returns-in_default-clause-chains : goal.returns-in_default-clause-chains
returns-in_default-clause-chains c = λ s.
    ap (λ v. chain_in v s) c.self.view_is ∙ sym (ap (λ b. chain_with b c.args.reply s (chain_in c.args.self.now s)) c.in_default.is)

pub lay-requires-clause-free : goal.lay-requires-clause-free
lay-requires-clause-free c =
    let s = c.self.inside in
    let at = rw (← c.self.view_is) at c.requires.place in
    free-link s.rows s.links.items c.args.reply c.args.place.0 c.are_apart.ensures c.self.invariant.owners c.self.invariant.owing (rw (← c.self.view_is) at c.requires.free) at

pub lay-requires-clause-out : goal.lay-requires-clause-out
lay-requires-clause-out c = free-out c.self.inside.rows c.self.inside.links.items c.args.reply c.self.invariant.owing (rw (← c.self.view_is) at c.requires.free)

pub lay-requires-clause-room : goal.lay-requires-clause-room
lay-requires-clause-room c =
    let s = c.self.inside in
    let at = rw (← c.self.view_is) at c.requires.place in
    let free = free-link s.rows s.links.items c.args.reply c.args.place.0 c.are_apart.ensures c.self.invariant.owners c.self.invariant.owing (rw (← c.self.view_is) at c.requires.free) at in
    let within : c.args.place.0 < object_limit = subst (λ n. c.args.place.0 < n) c.self.invariant.room (c.are_apart.ensures.room c.args.reply c.args.place.0 at) in
    let few = few-tops s.links.items s.tops c.args.place.0 c.self.invariant.sound within free in
    few

pub returns-clause-chains : goal.returns-clause-chains
returns-clause-chains c = λ s.
    let old = linked_of c.self.inside.links.items c.self.inside.tops s in
    c.lay.ensures.chains s ∙ ap (λ b. cond b (c.args.reply ∷ old) old) (same-sym s c.in-Some.context)
    ∙ ap (λ os. cond (same c.in-Some.context s) (c.args.reply ∷ os) os) (ap (λ v. chain_in v s) c.self.view_is)
    ∙ sym (ap (λ b. chain_with b c.args.reply s (chain_in c.args.self.now s)) c.in-Some.is)
