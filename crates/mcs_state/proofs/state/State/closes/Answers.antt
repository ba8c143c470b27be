use Rattle.std.proofs.Common.{refl, ap, arith}
use Rattle.mcs_types.specs.declared.id.Kind.TheVariants as kind
use Rattle.mcs_types.specs.declared.record.Rec.TheVariants as rec
use Rattle.mcs_object_queues.specs.Queues.{has_queues}
use Rattle.mcs_state.proofs.ContextLaws.{closing-context, closing-unheld, closing-homeless}
use Rattle.mcs_state.proofs.NotificationLaws.{closing-notification, closing-unbound, closing-homeless as closing-unhomed}
use Rattle.mcs_state.proofs.QueueLaws.{closing-queues, closing-empty}
use Rattle.mcs_state.proofs.ReplyLaws.{closing-reply, closing-unowing, closing-unattended}
use Rattle.mcs_state.proofs.ThreadLaws.{thread-there}
use Rattle.mcs_state.proofs.Following.{follows, follows-closed, inside, inside-room}
use Rattle.mcs_state.proofs.state.State.closes.Goals as goal

pub close-requires-clause-queued : goal.close-requires-clause-queued
close-requires-clause-queued g c = ap has_queues c.in-Endpoint.is

pub close-requires-clause-there : goal.close-requires-clause-there
close-requires-clause-there g c =
    let ok = inside (rec.Closed c.args.object) c.self.view_is c.requires.allowed in
    closing-queues _ _ c.args.object ok c.self.invariant.1.queues

pub close-requires-clause-empty : goal.close-requires-clause-empty
close-requires-clause-empty g c =
    let ok = inside (rec.Closed c.args.object) c.self.view_is c.requires.allowed in
    closing-empty _ _ c.args.object c.self.invariant.1.sound ok c.self.invariant.1.queues

pub invariant_of-self : goal.invariant_of-self
invariant_of-self g c =
    let ok = inside (rec.Closed c.args.object) c.self.view_is c.requires.allowed in
    let close = c.close.ensures in (
      omega (arith, c.self.invariant.0, c.note.ensures.whole),
      follows (rec.Closed c.args.object) _ _ _ _ _ _ c.note.ensures.book c.note.ensures.hand (inside-room c.self.view_is c.requires.room c.self.invariant.0) ok
          (follows-closed _ c.args.object kind.Endpoint _ _ c.in-Endpoint.is (record {
            threads = refl;
            letters = refl;
            contexts = refl;
            queues = record { line = close.line; queue = close.queue; has = close.has; made = close.given; there = close.there };
            replies = refl;
            notifications = refl;
            slots = refl;
            sent = refl;
          })) c.self.invariant.1,
    )

pub close-requires-in-Notification-clause-queued : goal.close-requires-in-Notification-clause-queued
close-requires-in-Notification-clause-queued g c = ap has_queues c.in-Notification.is

pub close-requires-in-Notification-clause-there : goal.close-requires-in-Notification-clause-there
close-requires-in-Notification-clause-there g c =
    let ok = inside (rec.Closed c.args.object) c.self.view_is c.requires.allowed in
    closing-queues _ _ c.args.object ok c.self.invariant.1.queues

pub close-requires-in-Notification-clause-empty : goal.close-requires-in-Notification-clause-empty
close-requires-in-Notification-clause-empty g c =
    let ok = inside (rec.Closed c.args.object) c.self.view_is c.requires.allowed in
    closing-empty _ _ c.args.object c.self.invariant.1.sound ok c.self.invariant.1.queues

pub end_notification-requires-clause-there : goal.end_notification-requires-clause-there
end_notification-requires-clause-there g c =
    let ok = inside (rec.Closed c.args.object) c.self.view_is c.requires.allowed in
    closing-notification _ _ c.args.object c.in-Notification.is ok c.self.invariant.1.notifications

pub end_notification-requires-clause-unbound : goal.end_notification-requires-clause-unbound
end_notification-requires-clause-unbound g c =
    let ok = inside (rec.Closed c.args.object) c.self.view_is c.requires.allowed in
    closing-unbound _ _ c.args.object c.in-Notification.is ok c.self.invariant.1.notifications

pub end_notification-requires-clause-homeless : goal.end_notification-requires-clause-homeless
end_notification-requires-clause-homeless g c =
    let ok = inside (rec.Closed c.args.object) c.self.view_is c.requires.allowed in
    closing-unhomed _ _ c.args.object c.in-Notification.is ok c.self.invariant.1.notifications

pub invariant_of-self-in-Notification : goal.invariant_of-self-in-Notification
invariant_of-self-in-Notification g c =
    let ok = inside (rec.Closed c.args.object) c.self.view_is c.requires.allowed in
    let close = c.close-in-Notification.ensures in (
      omega (arith, c.self.invariant.0, c.note.ensures.whole),
      follows (rec.Closed c.args.object) _ _ _ _ _ _ c.note.ensures.book c.note.ensures.hand (inside-room c.self.view_is c.requires.room c.self.invariant.0) ok
          (follows-closed _ c.args.object kind.Notification _ _ c.in-Notification.is (record {
            threads = refl;
            letters = refl;
            contexts = refl;
            queues = record { line = close.line; queue = close.queue; has = close.has; made = close.given; there = close.there };
            replies = refl;
            notifications = c.end_notification.ensures;
            slots = refl;
            sent = refl;
          })) c.self.invariant.1,
    )

pub close-requires-in-Reply-clause-there : goal.close-requires-in-Reply-clause-there
close-requires-in-Reply-clause-there g c =
    let ok = inside (rec.Closed c.args.object) c.self.view_is c.requires.allowed in
    closing-reply _ _ c.args.object c.in-Reply.is ok c.self.invariant.1.replies

pub close-requires-in-Reply-clause-alone : goal.close-requires-in-Reply-clause-alone
close-requires-in-Reply-clause-alone g c =
    let ok = inside (rec.Closed c.args.object) c.self.view_is c.requires.allowed in
    closing-unattended _ _ c.args.object c.in-Reply.is ok c.self.invariant.1.replies

pub close-requires-in-Reply-clause-free : goal.close-requires-in-Reply-clause-free
close-requires-in-Reply-clause-free g c =
    let ok = inside (rec.Closed c.args.object) c.self.view_is c.requires.allowed in
    closing-unowing _ _ c.args.object c.in-Reply.is ok c.self.invariant.1.replies

pub invariant_of-self-in-Reply : goal.invariant_of-self-in-Reply
invariant_of-self-in-Reply g c =
    let ok = inside (rec.Closed c.args.object) c.self.view_is c.requires.allowed in
    let close = c.close-in-Reply.ensures in (
      omega (arith, c.self.invariant.0, c.note.ensures.whole),
      follows (rec.Closed c.args.object) _ _ _ _ _ _ c.note.ensures.book c.note.ensures.hand (inside-room c.self.view_is c.requires.room c.self.invariant.0) ok
          (follows-closed _ c.args.object kind.Reply _ _ c.in-Reply.is (record {
            threads = refl;
            letters = refl;
            contexts = refl;
            queues = refl;
            replies = record { counts = close.counts; there = close.there; receivers = close.receivers; debts = record { owed = close.owed; chains = close.chains } };
            notifications = refl;
            slots = refl;
            sent = refl;
          })) c.self.invariant.1,
    )

pub close-requires-in-Context-clause-there : goal.close-requires-in-Context-clause-there
close-requires-in-Context-clause-there g c =
    let ok = inside (rec.Closed c.args.object) c.self.view_is c.requires.allowed in
    closing-context _ _ c.args.object c.self.invariant.1.sound c.in-Context.is ok c.self.invariant.1.contexts

pub close-requires-in-Context-clause-free : goal.close-requires-in-Context-clause-free
close-requires-in-Context-clause-free g c =
    let ok = inside (rec.Closed c.args.object) c.self.view_is c.requires.allowed in
    closing-unheld _ _ c.args.object c.in-Context.is ok c.self.invariant.1.contexts

pub close-requires-in-Context-clause-homeless : goal.close-requires-in-Context-clause-homeless
close-requires-in-Context-clause-homeless g c =
    let ok = inside (rec.Closed c.args.object) c.self.view_is c.requires.allowed in
    closing-homeless _ _ c.args.object c.in-Context.is ok c.self.invariant.1.contexts

pub invariant_of-self-in-Context : goal.invariant_of-self-in-Context
invariant_of-self-in-Context g c =
    let ok = inside (rec.Closed c.args.object) c.self.view_is c.requires.allowed in
    let close = c.close-in-Context.ensures in
    let chain = c.drop_chain.ensures in (
      omega (arith, c.self.invariant.0, c.note.ensures.whole),
      follows (rec.Closed c.args.object) _ _ _ _ _ _ c.note.ensures.book c.note.ensures.hand (inside-room c.self.view_is c.requires.room c.self.invariant.0) ok
          (follows-closed _ c.args.object kind.Context _ _ c.in-Context.is (record {
            threads = refl;
            letters = refl;
            contexts = record { counts = close.counts; cores = close.cores; holders = close.holders; homes = close.homes };
            queues = refl;
            replies = record { same = record { objects = record { counts = chain.counts; there = chain.there }; receivers = chain.receivers }; owed = chain.owed; chains = chain.chains };
            notifications = refl;
            slots = refl;
            sent = refl;
          })) c.self.invariant.1,
    )

pub invariant_of-self-in-Thread : goal.invariant_of-self-in-Thread
invariant_of-self-in-Thread g c =
    let ok = inside (rec.Closed c.args.object) c.self.view_is c.requires.allowed in
    let there = thread-there _ c.self.inside.threads c.args.object c.self.invariant.1.sound c.self.invariant.1.threads (c.in-Thread.is, ok.0) in
    let close = c.close-in-Thread.ensures in (
      omega (arith, c.self.invariant.0, c.note.ensures.whole),
      follows (rec.Closed c.args.object) _ _ _ _ _ _ c.note.ensures.book c.note.ensures.hand (inside-room c.self.view_is c.requires.room c.self.invariant.0) ok
          (follows-closed _ c.args.object kind.Thread _ _ c.in-Thread.is (record {
            threads = record { made = close.made; rows = close.rows; mails = close.mails there };
            letters = refl;
            contexts = refl;
            queues = refl;
            replies = refl;
            notifications = refl;
            slots = refl;
            sent = refl;
          })) c.self.invariant.1,
    )
