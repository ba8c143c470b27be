use Rattle.std.proofs.Common.{refl, arith}
use Rattle.mcs_types.specs.declared.record.Rec.TheVariants as rec
use Rattle.mcs_state.proofs.DebtLaws.{may-owe}
use Rattle.mcs_state.proofs.ThreadLaws.{thread-there}
use Rattle.mcs_state.proofs.Following.{follows, inside, inside-room}
use Rattle.mcs_state.proofs.state.State.owes.Goals as goal

pub owe-requires : goal.owe-requires
owe-requires g c =
    let ok = inside (rec.Owes c.args.reply c.args.caller c.args.brought) c.self.view_is c.requires.allowed in
    may-owe _ c.self.inside.replies c.args.reply c.args.caller c.args.brought c.self.invariant.1.replies ok

pub unwrap-requires : goal.unwrap-requires
unwrap-requires g c =
    let ok = inside (rec.Owes c.args.reply c.args.caller c.args.brought) c.self.view_is c.requires.allowed in
    c.block.ensures.found.1 (thread-there _ c.self.inside.threads c.args.caller c.self.invariant.1.sound c.self.invariant.1.threads ok.2)

pub invariant_of-self : goal.invariant_of-self
invariant_of-self g c = (
  omega (arith, c.self.invariant.0, c.note.ensures.whole),
  follows (rec.Owes c.args.reply c.args.caller c.args.brought) _ _ _ _ _ _ c.note.ensures.book c.note.ensures.hand (inside-room c.self.view_is c.requires.room c.self.invariant.0) (inside (rec.Owes c.args.reply c.args.caller c.args.brought) c.self.view_is c.requires.allowed)
      (record { threads = c.block.ensures.changed; letters = refl; contexts = refl; queues = refl; replies = c.owe.ensures; notifications = refl; slots = refl; sent = refl }) c.self.invariant.1,
)
