use Rattle.std.proofs.Common.{refl, arith}
use Rattle.mcs_types.specs.declared.record.Rec.TheVariants as rec
use Rattle.mcs_state.proofs.ThreadLaws.{thread-there}
use Rattle.mcs_state.proofs.Following.{follows, inside, inside-room}
use Rattle.mcs_state.proofs.state.State.prio.Goals as goal

pub unwrap-requires : goal.unwrap-requires
unwrap-requires g c =
    let ok = inside (rec.Prio c.args.thread c.args.priority) c.self.view_is c.requires.allowed in
    c.set_prio.ensures.found.1 (thread-there _ c.self.inside.threads c.args.thread c.self.invariant.1.sound c.self.invariant.1.threads ok.0)

pub invariant_of-self : goal.invariant_of-self
invariant_of-self g c = (
  omega (arith, c.self.invariant.0, c.note.ensures.whole),
  follows (rec.Prio c.args.thread c.args.priority) _ _ _ _ _ _ c.note.ensures.book c.note.ensures.hand (inside-room c.self.view_is c.requires.room c.self.invariant.0) (inside (rec.Prio c.args.thread c.args.priority) c.self.view_is c.requires.allowed)
      (record { threads = c.set_prio.ensures.changed; letters = refl; contexts = refl; queues = record { line = c.shift.ensures.line; queue = c.shift.ensures.queue; objects = record { has = c.shift.ensures.has; made = c.shift.ensures.given; there = c.shift.ensures.there } }; replies = refl; notifications = refl; slots = refl; sent = refl }) c.self.invariant.1,
)
