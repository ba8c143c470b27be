use Rattle.std.specs.Prelude.{◌≡◌, ◌++◌, ◌+◌}
use Rattle.std.proofs.Common.{refl, ap, ◌∙◌, arith}
use Rattle.mcs_types.specs.declared.id.Kind.TheVariants as kind
use Rattle.mcs_types.specs.declared.record.Rec.TheVariants as rec
use Rattle.mcs_types.specs.declared.record.Form.TheVariants as form
use Rattle.mcs_book.specs.Logs.{Log}
use Rattle.mcs_book.specs.History.{log_of}
use Rattle.mcs_book.specs.Objects.{next_id}
use Rattle.mcs_state.proofs.MakingLaws.{next-of}
use Rattle.mcs_state.proofs.Following.{inside-made}
use Rattle.mcs_state.proofs.Following.{follows, inside-room}
use Rattle.mcs_state.proofs.state.State.makes_notification.Goals as goal

pub invariant_of-self : goal.invariant_of-self
invariant_of-self g c =
    let R : Log = c.self.inside.book.hand ++ log_of c.self.inside.book.book in
    let open_queue = c.open.ensures in
    let add = c.add-object.ensures in
    let queued : c.open.result ≡ next_id R kind.Notification = open_queue.id ∙ ap (λ n. record { kind = kind.Notification; serial = n + 1 }) (c.self.invariant.1.queues.made kind.Notification refl) in
    let is : c.add-object.result ≡ next_id R kind.Notification = add.id ∙ next-of R kind.Notification _ c.self.invariant.1.notifications.counts in
    let items = rw is at c.note.ensures.hand in
    let has = rw queued at open_queue.has in
    let there = rw is at add.there in
    let made = rec.Made (next_id R kind.Notification) (form.Plain) in (
      omega (arith, c.self.invariant.0, c.note.ensures.whole),
      follows made _ _ _ _ _ _ c.note.ensures.book items (inside-room c.self.view_is c.requires.room c.self.invariant.0) (inside-made kind.Notification form.Plain c.self.view_is c.requires.allowed)
          (record {
            threads = refl;
            letters = refl;
            contexts = refl;
            queues = record { line = open_queue.line; queue = open_queue.queue; has = has; made = open_queue.given; there = open_queue.there };
            replies = refl;
            notifications = record { counts = add.counts; there = there; words = add.words; threads = add.threads; homed = add.homed };
            slots = refl;
            sent = refl;
          }) c.self.invariant.1,
    )
