use Rattle.std.proofs.Common.{◌≡◌, ◌∙◌, ◌++◌}
use Rattle.mcs_book.specs.History.{log_of}
use Rattle.mcs_book.specs.Threads.{prio_of}
use Rattle.mcs_state.proofs.ThreadLaws.{thread-there}
use Rattle.mcs_state.proofs.QueueLaws.{queue-there}
use Rattle.mcs_state.proofs.ReplyLaws.{named-there}
use Rattle.mcs_state.proofs.Following.{seen}
use Rattle.std.proofs.Common.{refl, arith}
use Rattle.mcs_types.specs.declared.record.Rec.TheVariants as rec
use Rattle.mcs_state.proofs.Following.{follows, inside, inside-room}
use Rattle.mcs_state.proofs.state.State.joins.Goals as goal

pub join-requires-clause-known : goal.join-requires-clause-known
join-requires-clause-known g c =
    let ok = inside (rec.Joins c.args.thread c.args.queue c.args.reply) c.self.view_is c.requires.allowed in
    c.are_few.ensures c.args.thread (thread-there _ c.self.inside.threads c.args.thread c.self.invariant.1.sound c.self.invariant.1.threads ok.0)

pub join-requires-clause-there : goal.join-requires-clause-there
join-requires-clause-there g c =
    let ok = inside (rec.Joins c.args.thread c.args.queue c.args.reply) c.self.view_is c.requires.allowed in
    c.self.invariant.1.queues.has c.args.queue ∙ queue-there (c.self.inside.book.hand ++ log_of c.self.inside.book.book) c.args.queue ok.3

pub attend-requires : goal.attend-requires
attend-requires g c =
    let ok = inside (rec.Joins c.args.thread c.args.queue c.args.reply) c.self.view_is c.requires.allowed in
    rw c.attended.ensures (named-there _ c.self.inside.replies c.args.queue c.args.reply c.self.invariant.1.replies ok.4)

pub unwrap-requires : goal.unwrap-requires
unwrap-requires g c =
    let ok = inside (rec.Joins c.args.thread c.args.queue c.args.reply) c.self.view_is c.requires.allowed in
    c.block.ensures.found.1 (thread-there _ c.self.inside.threads c.args.thread c.self.invariant.1.sound c.self.invariant.1.threads ok.0)

pub invariant_of-self : goal.invariant_of-self
invariant_of-self g c = let line = rw (seen c.self.view_is (λ R. c.priority-priority.result.0 ≡ prio_of R c.args.thread) c.priority-priority.ensures) at c.join.ensures.line in
    let replies = rw c.attended.ensures at c.attend.ensures in (
      omega (arith, c.self.invariant.0, c.note.ensures.whole),
      follows (rec.Joins c.args.thread c.args.queue c.args.reply) _ _ _ _ _ _ c.note.ensures.book c.note.ensures.hand (inside-room c.self.view_is c.requires.room c.self.invariant.0) (inside (rec.Joins c.args.thread c.args.queue c.args.reply) c.self.view_is c.requires.allowed)
          (record { threads = c.block.ensures.changed; letters = refl; contexts = refl; queues = record { line = line; queue = c.join.ensures.queue; objects = record { has = c.join.ensures.has; made = c.join.ensures.given; there = c.join.ensures.there } }; replies = replies; notifications = refl; slots = refl; sent = refl }) c.self.invariant.1,
    )
