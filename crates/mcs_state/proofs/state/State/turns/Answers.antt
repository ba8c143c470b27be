use Rattle.std.proofs.Common.{refl, arith}
use Rattle.mcs_types.specs.declared.record.Rec.TheVariants as rec
use Rattle.mcs_state.proofs.ThreadLaws.{thread-there}
use Rattle.mcs_state.proofs.Following.{follows, inside, inside-room}
use Rattle.mcs_state.proofs.state.State.turns.Goals as goal

pub unwrap-requires : goal.unwrap-requires
unwrap-requires g c =
    let ok = inside (rec.Turns c.args.thread c.args.mode) c.self.view_is c.requires.allowed in
    c.set_mode.ensures.found.1 (thread-there _ c.self.inside.threads c.args.thread c.self.invariant.1.sound c.self.invariant.1.threads ok.0)

pub invariant_of-self : goal.invariant_of-self
invariant_of-self g c = (
  omega (arith, c.self.invariant.0, c.note.ensures.whole),
  follows (rec.Turns c.args.thread c.args.mode) _ _ _ _ _ _ c.note.ensures.book c.note.ensures.hand (inside-room c.self.view_is c.requires.room c.self.invariant.0) (inside (rec.Turns c.args.thread c.args.mode) c.self.view_is c.requires.allowed)
      (record { threads = c.set_mode.ensures.changed; letters = refl; contexts = refl; queues = refl; replies = refl; notifications = refl; slots = refl; sent = refl }) c.self.invariant.1,
)
