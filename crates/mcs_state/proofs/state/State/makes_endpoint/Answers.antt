use Rattle.std.specs.Prelude.{◌≡◌, ◌++◌, ◌+◌}
use Rattle.std.proofs.Common.{refl, ap, ◌∙◌, arith}
use Rattle.mcs_types.specs.declared.id.Kind.TheVariants as kind
use Rattle.mcs_types.specs.declared.record.Rec.TheVariants as rec
use Rattle.mcs_types.specs.declared.record.Form.TheVariants as form
use Rattle.mcs_book.specs.Logs.{Log}
use Rattle.mcs_book.specs.History.{log_of}
use Rattle.mcs_book.specs.Objects.{next_id}
use Rattle.mcs_state.proofs.Following.{inside-made}
use Rattle.mcs_state.proofs.Following.{follows, inside-room}
use Rattle.mcs_state.proofs.state.State.makes_endpoint.Goals as goal

pub invariant_of-self : goal.invariant_of-self
invariant_of-self g c =
    let R : Log = c.self.inside.book.hand ++ log_of c.self.inside.book.book in
    let is : c.open-object.result ≡ next_id R kind.Endpoint = c.open-object.ensures.id ∙ ap (λ n. record { kind = kind.Endpoint; serial = n + 1 }) (c.self.invariant.1.queues.made kind.Endpoint refl) in
    let items = rw is at c.note.ensures.hand in
    let has = rw is at c.open-object.ensures.has in
    let made = rec.Made (next_id R kind.Endpoint) (form.Plain) in (
      omega (arith, c.self.invariant.0, c.note.ensures.whole),
      follows made _ _ _ _ _ _ c.note.ensures.book items (inside-room c.self.view_is c.requires.room c.self.invariant.0) (inside-made kind.Endpoint form.Plain c.self.view_is c.requires.allowed)
          (record { threads = refl; letters = refl; contexts = refl; queues = record { line = c.open-object.ensures.line; queue = c.open-object.ensures.queue; has = has; made = c.open-object.ensures.given; there = c.open-object.ensures.there }; replies = refl; notifications = refl; slots = refl; sent = refl }) c.self.invariant.1,
    )
