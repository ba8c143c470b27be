use Rattle.std.proofs.Common.{◌≡◌, ◌∙◌, ◌&&◌, ap, sym, true, false, option_and_then}
use Rattle.mcs_book.specs.Logs.{Log}
use Rattle.mcs_book.specs.Objects.{form_of}
use Rattle.mcs_book.specs.Contexts.{context_of}
use Rattle.mcs_book.specs.Statuses.{is_ready, is_on_core, status_of}
use Rattle.mcs_state.specs.Now.{so_far}
use Rattle.mcs_state.proofs.Picking.{entrant}
use Rattle.mcs_state.proofs.state.State.may_enter.Goals as goal

pub returns-then-is_ready : goal.returns-then-is_ready
returns-then-is_ready g c =
    let R : Log = so_far c.args.self.now in
    let ready : is_ready (status_of R c.args.thread) ≡ true = ap (λ s. is_ready s) (sym c.status.ensures) ∙ sym c.is_ready.ensures ∙ c.if-is_ready.true in
    c.has_context_of.ensures ∙ sym (ap (λ b. b && is_on_core c.args.core (option_and_then (λ s. form_of R s) (context_of R c.args.thread))) ready) ∙ entrant R c.args.core c.args.thread

pub returns-else-is_ready : goal.returns-else-is_ready
returns-else-is_ready g c =
    let R : Log = so_far c.args.self.now in
    let unready : is_ready (status_of R c.args.thread) ≡ false = ap (λ s. is_ready s) (sym c.status.ensures) ∙ sym c.is_ready.ensures ∙ c.if-is_ready.false in
    c.if-is_ready.false ∙ sym (ap (λ b. b && is_on_core c.args.core (option_and_then (λ s. form_of R s) (context_of R c.args.thread))) unready) ∙ entrant R c.args.core c.args.thread
