use Rattle.std.proofs.Common.{ap, sym, ◌∙◌, is_some}
use Rattle.mcs_book.proofs.Firm.Laws.{tied-bound, tied-none}
use Rattle.mcs_state.specs.Now.{so_far}
use Rattle.mcs_cancel.proofs.Releasing.{tied-alone}
use Rattle.mcs_cancel.proofs.destruction.free.Goals as goal

pub ties-requires-clause-allowed : goal.ties-requires-clause-allowed
ties-requires-clause-allowed g c = ap (λ o. is_some o) (tied-bound (so_far c.args.state.now) c.args.notification c.in-Some.thread (sym c.tied_to.ensures ∙ c.in-Some.is))

pub returns-in-None-clause-unbound : goal.returns-in-None-clause-unbound
returns-in-None-clause-unbound g c = tied-none (so_far c.args.state.now) c.args.notification c.is_sound.ensures.sound (sym c.tied_to.ensures ∙ c.in-None.is)

pub returns-in-Some-clause-unbound : goal.returns-in-Some-clause-unbound
returns-in-Some-clause-unbound g c =
    let R = so_far c.args.state.now in
    rw c.ties.ensures (tied-alone R c.args.notification c.in-Some.thread c.is_sound.ensures.sound (tied-bound R c.args.notification c.in-Some.thread (sym c.tied_to.ensures ∙ c.in-Some.is)))
