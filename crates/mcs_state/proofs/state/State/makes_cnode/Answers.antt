use Rattle.std.specs.Prelude.{◌≡◌, ◌++◌, ◌+◌}
use Rattle.std.proofs.Common.{refl, ap, ◌∙◌, arith}
use Rattle.mcs_types.specs.declared.id.Kind.TheVariants as kind
use Rattle.mcs_types.specs.declared.record.Rec.TheVariants as rec
use Rattle.mcs_types.specs.declared.record.Form.TheVariants as form
use Rattle.mcs_book.specs.Logs.{Log}
use Rattle.mcs_book.specs.History.{log_of}
use Rattle.mcs_book.specs.Objects.{next_id}
use Rattle.mcs_state.proofs.Following.{inside-made}
use Rattle.mcs_state.proofs.Following.{follows, inside-room}
use Rattle.mcs_state.proofs.state.State.makes_cnode.Goals as goal

pub invariant_of-self-2 : goal.invariant_of-self-2
invariant_of-self-2 g c =
    let R : Log = c.self.inside.book.hand ++ log_of c.self.inside.book.book in
    let is : record { kind = kind.CNode; serial = c.len.result + 1 } ≡ next_id R kind.CNode = ap (λ n. record { kind = kind.CNode; serial = n + 1 }) (c.len.ensures ∙ c.self.invariant.1.slots.made) in
    let items = rw is at c.note.ensures.hand in
    let made = rec.Made (next_id R kind.CNode) (form.Slots c.args.radix) in (
      omega (arith, c.self.invariant.0, c.note.ensures.whole),
      follows made _ _ _ _ _ _ c.note.ensures.book items (inside-room c.self.view_is c.requires.room c.self.invariant.0) (inside-made kind.CNode (form.Slots c.args.radix) c.self.view_is c.requires.allowed)
          (record { threads = refl; letters = refl; contexts = refl; queues = refl; replies = refl; notifications = refl; slots = c.in_ok-add.ensures.added; sent = refl }) c.self.invariant.1,
    )
