use Rattle.std.proofs.Common.{◌≡◌, refl, arith}
use Rattle.mcs_types.specs.declared.record.Rec.TheVariants as rec
use Rattle.mcs_book.specs.Notifications.{bound_of}
use Rattle.mcs_state.proofs.NotificationLaws.{bound-listed, tied-listed}
use Rattle.mcs_state.proofs.Following.{follows, inside, inside-room, seen}
use Rattle.mcs_state.proofs.state.State.ties.Goals as goal

pub rebind-requires-clause-from : goal.rebind-requires-clause-from
rebind-requires-clause-from g c =
    let bound = seen c.self.view_is (λ R. c.bound_of-bound.result ≡ bound_of R c.args.thread) c.bound_of-bound.ensures in
    rw bound (bound-listed _ c.self.inside.notifications c.args.thread c.self.invariant.1.sound c.self.invariant.1.notifications)

pub rebind-requires-clause-to : goal.rebind-requires-clause-to
rebind-requires-clause-to g c =
    let ok = inside (rec.Tied c.args.thread c.args.notification) c.self.view_is c.requires.allowed in
    tied-listed _ c.self.inside.notifications c.args.thread c.args.notification c.self.invariant.1.notifications ok

pub invariant_of-self : goal.invariant_of-self
invariant_of-self g c =
    let bound = seen c.self.view_is (λ R. c.bound_of-bound.result ≡ bound_of R c.args.thread) c.bound_of-bound.ensures in
    let notifications = rw bound at c.rebind.ensures in (
      omega (arith, c.self.invariant.0, c.note.ensures.whole),
      follows (rec.Tied c.args.thread c.args.notification) _ _ _ _ _ _ c.note.ensures.book c.note.ensures.hand (inside-room c.self.view_is c.requires.room c.self.invariant.0) (inside (rec.Tied c.args.thread c.args.notification) c.self.view_is c.requires.allowed)
          (record { threads = c.tie.ensures; letters = refl; contexts = refl; queues = refl; replies = refl; notifications = notifications; slots = refl; sent = refl }) c.self.invariant.1,
    )
