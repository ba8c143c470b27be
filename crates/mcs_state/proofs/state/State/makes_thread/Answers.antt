use Rattle.std.specs.Prelude.{◌≡◌, ◌++◌, ◌+◌}
use Rattle.std.proofs.Common.{refl, ap, ◌∙◌, arith}
use Rattle.mcs_types.specs.declared.id.Kind.TheVariants as kind
use Rattle.mcs_types.specs.declared.record.Rec.TheVariants as rec
use Rattle.mcs_types.specs.declared.record.Form.TheVariants as form
use Rattle.mcs_book.specs.Logs.{Log}
use Rattle.mcs_book.specs.History.{log_of}
use Rattle.mcs_book.specs.Objects.{next_id}
use Rattle.mcs_state.proofs.Following.{inside-made}
use Rattle.mcs_state.proofs.Following.{follows, inside-room}
use Rattle.mcs_state.proofs.state.State.makes_thread.Goals as goal

pub invariant_of-self : goal.invariant_of-self
invariant_of-self g c =
    let R : Log = c.self.inside.book.hand ++ log_of c.self.inside.book.book in
    let is : c.add-object.result ≡ next_id R kind.Thread = c.add-object.ensures.id ∙ ap (λ n. record { kind = kind.Thread; serial = n + 1 }) c.self.invariant.1.threads.made in
    let items = rw is at c.note.ensures.hand in
    let rows = rw (is, c.again.ensures) at c.add-object.ensures.rows in
    let made = rec.Made (next_id R kind.Thread) (form.Runner c.args.maximum c.args.root) in (
      omega (arith, c.self.invariant.0, c.note.ensures.whole),
      follows made _ _ _ _ _ _ c.note.ensures.book items (inside-room c.self.view_is c.requires.room c.self.invariant.0) (inside-made kind.Thread (form.Runner c.args.maximum c.args.root) c.self.view_is c.requires.allowed)
          (record { threads = record { made = c.add-object.ensures.made; rows = rows; mails = c.add-object.ensures.mails }; letters = refl; contexts = refl; queues = refl; replies = refl; notifications = refl; slots = refl; sent = refl }) c.self.invariant.1,
    )
