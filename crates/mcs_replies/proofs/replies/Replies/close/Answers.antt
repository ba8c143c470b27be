use Rattle.std.proofs.Common.{◌≡◌, Option, is_some, None, ap, ◌∙◌}
use Rattle.std.specs.Prelude.{IsSome}
use Rattle.mcs_replies.specs.declared.replies.ReplyRow.{ReplyRow}
use Rattle.mcs_replies.specs.Owing.{chain_in, owed_at}
use Rattle.mcs_replies.proofs.OwingLaws.{owes-other, owes-still, owed-removed, place-still, shape-kept}
use Rattle.mcs_replies.proofs.replies.Replies.close.Goals as goal

pub invariant_of-self : goal.invariant_of-self
invariant_of-self c =
    let s = c.self.inside in
    let all = c.self.invariant in
    let free : owed_at s.rows c.args.reply ≡ None = (rw (← c.self.view_is) at c.requires.free) in
    let there : IsSome c.remove.result = ap (λ (o : Option ReplyRow). is_some o) c.remove.ensures.value ∙ (rw (← c.self.view_is) at c.requires.there) in
    let kept = shape-kept s.rows c.remove.new.self c.remove.result c.remove.ensures.shape there in
    record {
      room = kept.0 ∙ all.room;
      kind = kept.1 ∙ all.kind;
      sound = all.sound;
      owners = λ u q h. place-still s.rows c.remove.new.self q c.args.reply u c.remove.ensures.places (owes-other s.rows q c.args.reply (all.owing u q h) free) (all.owners u q h);
      owing = λ u q h. owes-still s.rows c.remove.new.self q c.args.reply (owed-removed s.rows c.remove.new.self c.args.reply c.remove.ensures.values) (owes-other s.rows q c.args.reply (all.owing u q h) free) (all.owing u q h);
    }

pub returns-clause-chains : goal.returns-clause-chains
returns-clause-chains c = λ s. ap (λ v. chain_in v s) c.self.view_is
