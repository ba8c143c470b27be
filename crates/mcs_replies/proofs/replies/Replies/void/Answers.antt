use Rattle.std.proofs.Common.{Some, ap, sym, subst, ◌∙◌}
use Rattle.mcs_types.specs.Ids.{same, is_just}
use Rattle.mcs_types.proofs.Ids.{same-equal}
use Rattle.mcs_types.specs.Chains.{ended, head_of}
use Rattle.mcs_replies.specs.Owing.{Owing, chain_in, EndsDebt}
use Rattle.mcs_replies.proofs.OwingLaws.{unowed-ends, void-chains, void-sound, void-others, void-out, void-topped, owes-still, none-true}
use Rattle.mcs_replies.proofs.RowLaws.{no-place}
use Rattle.mcs_replies.proofs.replies.Replies.void.Goals as goal

pub returns-in_err-caller-clause-chains : goal.returns-in_err-caller-clause-chains
returns-in_err-caller-clause-chains c =
    subst (λ (v : Owing). EndsDebt v v c.args.how c.args.reply) c.self.view_is (unowed-ends _ c.args.how c.args.reply c.self.invariant (sym c.in_err-caller.ensures))

pub returns-in_err-place-clause-chains : goal.returns-in_err-place-clause-chains
returns-in_err-place-clause-chains c =
    subst (λ (v : Owing). EndsDebt v v c.args.how c.args.reply) c.self.view_is
    (unowed-ends _ c.args.how c.args.reply c.self.invariant (no-place c.self.inside.rows c.args.reply (sym c.in_err-place.ensures)))

pub invariant_of-self : goal.invariant_of-self
invariant_of-self c =
    let i = c.self.inside in
    let all = c.self.invariant in
    let at = sym c.in_ok-place.ensures in
    let others = void-others i.rows i.links.items c.leave-topped.new.links.items i.tops c.leave-topped.new.tops c.args.how c.args.reply c.in_ok-place.place.0 all.sound c.are_apart.ensures all.owners at c.leave-topped.ensures.ends c.leave-topped.ensures.links c.leave-topped.ensures.tops in
    let out = void-out i.rows i.links.items c.leave-topped.new.links.items i.tops c.leave-topped.new.tops c.args.how c.args.reply c.in_ok-place.place.0 all.sound c.are_apart.ensures all.owners at c.leave-topped.ensures.ends c.leave-topped.ensures.links c.leave-topped.ensures.tops in
    record {
      room = ap (λ n. n.room) c.keep_caller.ensures.shape ∙ all.room;
      kind = ap (λ n. n.kind) c.keep_caller.ensures.shape ∙ all.kind;
      sound = void-sound i.rows i.links.items c.leave-topped.new.links.items i.tops c.leave-topped.new.tops c.args.how c.args.reply c.in_ok-place.place.0 all.sound c.are_apart.ensures all.owners at c.leave-topped.ensures.ends c.leave-topped.ensures.links c.leave-topped.ensures.tops;
      owners = λ u q h. c.keep_caller.ensures.places q ∙ all.owners u q (others u q h);
      owing = λ u q h. owes-still i.rows c.keep_caller.new.rows q c.args.reply c.keep_caller.ensures.owed (none-true (same q c.args.reply) (λ e. absurd (out u (h ∙ ap Some (same-equal q c.args.reply e))))) (all.owing u q (others u q h));
    }

pub returns-clause-topped : goal.returns-clause-topped
returns-clause-topped c =
    let i = c.self.inside in
    let all = c.self.invariant in
    let at = sym c.in_ok-place.ensures in
    λ s. void-topped i.rows i.links.items c.leave-topped.new.links.items i.tops c.leave-topped.new.tops c.args.how c.args.reply c.in_ok-place.place.0 all.sound c.are_apart.ensures all.owners at c.leave-topped.ensures.ends c.leave-topped.ensures.links c.leave-topped.ensures.tops c.leave-topped.result c.leave-topped.ensures.topped s
    ∙ ap (λ v. is_just (head_of (chain_in v s)) c.args.reply) c.self.view_is

pub returns-clause-chains : goal.returns-clause-chains
returns-clause-chains c =
    let i = c.self.inside in
    let all = c.self.invariant in
    let at = sym c.in_ok-place.ensures in
    λ s. void-chains i.rows i.links.items c.leave-topped.new.links.items i.tops c.leave-topped.new.tops c.args.how c.args.reply c.in_ok-place.place.0 all.sound c.are_apart.ensures all.owners at c.leave-topped.ensures.ends c.leave-topped.ensures.links c.leave-topped.ensures.tops s
    ∙ ap (λ v. ended c.args.how c.args.reply (chain_in v s)) c.self.view_is
