use Rattle.std.proofs.Common.{◌≡◌, Some, true, false, sym, ap, refl, ◌∙◌}
use Rattle.mcs_types.specs.declared.id.Kind.TheVariants as kind
use Rattle.mcs_types.specs.Ids.{same_kind}
use Rattle.mcs_book.specs.Objects.{was_made}
use Rattle.mcs_state.proofs.Following.{seen}
use Rattle.mcs_state.proofs.Answering.{status-row, status-closed, status-none}
use Rattle.mcs_state.proofs.state.State.status.Goals as goal

pub returns-in-Some : goal.returns-in-Some
returns-in-Some g c = rw (← c.self.view_is) (ap (λ s. Some s) c.status.ensures ∙ sym (status-row _ c.args.id _ c.self.invariant.1.sound (c.in-Some.ensures ∙ c.self.invariant.1.threads.rows c.args.id)))

pub returns-in-None : goal.returns-in-None
returns-in-None g c =
    let none = c.in-None.ensures ∙ c.self.invariant.1.threads.rows c.args.id in
    let kinds : same_kind c.args.id.kind kind.Thread ≡ true = sym c.is_same.ensures ∙ c.if-is_same.true in
    let made = seen c.self.view_is (λ R. was_made R c.args.id ≡ true) (sym c.was_made.ensures ∙ c.if-was_made.true) in
    rw (← c.self.view_is) (sym (status-closed _ c.args.id c.self.invariant.1.sound kinds made none))

pub returns-in-None-2 : goal.returns-in-None-2
returns-in-None-2 g c =
    let kinds : same_kind c.args.id.kind kind.Thread ≡ true = sym c.is_same.ensures ∙ c.if-is_same.true in
    let made = seen c.self.view_is (λ R. was_made R c.args.id ≡ false) (sym c.was_made.ensures ∙ c.if-was_made.false) in
    rw (← c.self.view_is) (sym (status-none _ c.args.id true false kinds made refl))

pub returns-in-None-2-2 : goal.returns-in-None-2-2
returns-in-None-2-2 g c =
    let kinds : same_kind c.args.id.kind kind.Thread ≡ false = sym c.is_same.ensures ∙ c.if-is_same.false in
    rw (← c.self.view_is) (sym (status-none _ c.args.id false _ kinds refl refl))
