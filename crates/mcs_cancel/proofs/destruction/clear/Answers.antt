use Rattle.std.proofs.Common.{ap, sym, ◌∙◌, is_some}
use Rattle.mcs_book.proofs.Firm.Laws.{homed_at-home, homed_at-none}
use Rattle.mcs_state.specs.Now.{so_far}
use Rattle.mcs_cancel.proofs.Releasing.{homed-alone}
use Rattle.mcs_cancel.proofs.destruction.clear.Goals as goal

pub homes-requires-clause-allowed : goal.homes-requires-clause-allowed
homes-requires-clause-allowed g c = ap (λ o. is_some o) (homed_at-home (so_far c.args.state.now) c.args.notification c.in-Some.context (sym c.homed_at.ensures ∙ c.in-Some.is))

pub returns-in-None-clause-homeless : goal.returns-in-None-clause-homeless
returns-in-None-clause-homeless g c = homed_at-none (so_far c.args.state.now) c.args.notification c.is_sound.ensures.sound (sym c.homed_at.ensures ∙ c.in-None.is)

pub returns-in-Some-clause-homeless : goal.returns-in-Some-clause-homeless
returns-in-Some-clause-homeless g c =
    let R = so_far c.args.state.now in
    rw c.homes.ensures (homed-alone R c.args.notification c.in-Some.context c.is_sound.ensures.sound (homed_at-home R c.args.notification c.in-Some.context (sym c.homed_at.ensures ∙ c.in-Some.is)))
