use Rattle.std.proofs.Common.{◌≡◌, subst}
use Rattle.mcs_types.specs.declared.id.ObjId.{ObjId}
use Rattle.std.proofs.Common.{Option, None}
use Rattle.mcs_book.specs.Queues.{reply_with}
use Rattle.mcs_book.proofs.SoundLogs.KeptLaws.{standing-thread}
use Rattle.mcs_state.specs.Following.{attended, SetsAny}
use Rattle.mcs_state.proofs.ReplyLaws.{attended-there}
use Rattle.mcs_state.proofs.ThreadLaws.{thread-there}
use Rattle.mcs_state.proofs.Following.{seen}
use Rattle.std.proofs.Common.{refl, arith}
use Rattle.mcs_types.specs.declared.record.Rec.TheVariants as rec
use Rattle.mcs_state.proofs.Following.{follows, inside, inside-room}
use Rattle.mcs_state.proofs.state.State.parts.Goals as goal

pub attend-requires : goal.attend-requires
attend-requires g c =
    let ok = inside (rec.Parts c.args.thread c.args.queue) c.self.view_is c.requires.allowed in
    let is = seen c.self.view_is (λ R. c.reply_with-reply.result ≡ attended c.args.queue (reply_with R c.args.thread)) c.reply_with-reply.ensures in
    rw is (attended-there _ c.self.inside.replies c.args.thread c.args.queue c.self.invariant.1.sound ok c.self.invariant.1.replies)

pub unwrap-requires : goal.unwrap-requires
unwrap-requires g c =
    let ok = inside (rec.Parts c.args.thread c.args.queue) c.self.view_is c.requires.allowed in
    c.unblock.ensures.found.1 (thread-there _ c.self.inside.threads c.args.thread c.self.invariant.1.sound c.self.invariant.1.threads (standing-thread _ c.args.thread c.args.queue c.self.invariant.1.sound ok))

pub invariant_of-self : goal.invariant_of-self
invariant_of-self g c = let is = seen c.self.view_is (λ R. c.reply_with-reply.result ≡ attended c.args.queue (reply_with R c.args.thread)) c.reply_with-reply.ensures in
    let replies = subst (λ (o : Option ObjId). SetsAny o None c.self.inside.replies c.attend.new.replies) is c.attend.ensures in (
      omega (arith, c.self.invariant.0, c.note.ensures.whole),
      follows (rec.Parts c.args.thread c.args.queue) _ _ _ _ _ _ c.note.ensures.book c.note.ensures.hand (inside-room c.self.view_is c.requires.room c.self.invariant.0) (inside (rec.Parts c.args.thread c.args.queue) c.self.view_is c.requires.allowed)
          (record { threads = c.unblock.ensures.changed; letters = refl; contexts = refl; queues = record { line = c.part.ensures.line; queue = c.part.ensures.queue; objects = record { has = c.part.ensures.has; made = c.part.ensures.given; there = c.part.ensures.there } }; replies = replies; notifications = refl; slots = refl; sent = refl }) c.self.invariant.1,
    )
