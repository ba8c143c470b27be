use Rattle.std.specs.Prelude.{◌≡◌, ◌++◌}
use Rattle.std.proofs.Common.{refl, ◌∙◌, arith}
use Rattle.mcs_types.specs.declared.id.Kind.TheVariants as kind
use Rattle.mcs_types.specs.declared.record.Rec.TheVariants as rec
use Rattle.mcs_types.specs.declared.record.Form.TheVariants as form
use Rattle.mcs_book.specs.Logs.{Log}
use Rattle.mcs_book.specs.History.{log_of}
use Rattle.mcs_book.specs.Objects.{next_id}
use Rattle.mcs_state.proofs.MakingLaws.{next-of}
use Rattle.mcs_state.proofs.Following.{inside-made}
use Rattle.mcs_state.proofs.Following.{follows, inside-room}
use Rattle.mcs_state.proofs.state.State.makes_context.Goals as goal

pub invariant_of-self : goal.invariant_of-self
invariant_of-self g c =
    let R : Log = c.self.inside.book.hand ++ log_of c.self.inside.book.book in
    let is : c.add-object.result ≡ next_id R kind.Context = c.add-object.ensures.id ∙ next-of R kind.Context _ c.self.invariant.1.contexts.shape in
    let items = rw is at c.note.ensures.hand in
    let cores = rw is at c.add-object.ensures.cores in
    let made = rec.Made (next_id R kind.Context) (form.OnCore c.args.core) in (
      omega (arith, c.self.invariant.0, c.note.ensures.whole),
      follows made _ _ _ _ _ _ c.note.ensures.book items (inside-room c.self.view_is c.requires.room c.self.invariant.0) (inside-made kind.Context (form.OnCore c.args.core) c.self.view_is c.requires.allowed)
          (record { threads = refl; letters = refl; contexts = record { counts = c.add-object.ensures.counts; cores = cores; holders = c.add-object.ensures.holders; homes = c.add-object.ensures.homes }; queues = refl; replies = refl; notifications = refl; slots = refl; sent = refl }) c.self.invariant.1,
    )
