use Rattle.std.proofs.Common.{◌&&◌, sym, ap, ◌∙◌}
use Rattle.mcs_book.specs.Logs.{Log}
use Rattle.mcs_book.specs.Objects.{was_made}
use Rattle.mcs_types.specs.declared.id.Kind.TheVariants as kind
use Rattle.mcs_book.specs.Boots.{has_objects, is_object}
use Rattle.mcs_state.specs.Now.{so_far}
use Rattle.mcs_boots.proofs.boot.checks.objects_exist.Goals as goal

pub returns-then-exists_as-2 : goal.returns-then-exists_as-2
returns-then-exists_as-2 g c =
    let R : Log = so_far c.args.state.now in
    c.was_made.ensures ∙ ap (λ b. b && was_made R c.in-Slot.cap.obj) (sym c.if-exists_as-2.true ∙ c.exists_as-in-Slot.ensures) ∙ ap (λ l. has_objects R l) (sym c.in-Slot.is)

pub returns-then-exists_as-3 : goal.returns-then-exists_as-3
returns-then-exists_as-3 g c =
    let R : Log = so_far c.args.state.now in
    c.exists_as-then-exists_as-3.ensures ∙ ap (λ b. b && is_object R kind.Notification c.in-Tie.notification) (sym c.if-exists_as-3.true ∙ c.exists_as-in-Tie.ensures) ∙ ap (λ l. has_objects R l) (sym c.in-Tie.is)
