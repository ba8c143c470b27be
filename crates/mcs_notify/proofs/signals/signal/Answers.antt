use Rattle.std.proofs.Common.{Some, None, refl, sym, ◌∙◌}
use Rattle.mcs_book.specs.Logs.{Log}
use Rattle.mcs_book.proofs.Firm.Taking.{raised-word}
use Rattle.mcs_state.specs.Now.{so_far}
use Rattle.mcs_notify.proofs.Hearing.{IsReached, reached-is, room-raised, room-heard, signal-made}
use Rattle.mcs_notify.proofs.signals.signal.Goals as goal

pub raises-requires-clause-room : goal.raises-requires-clause-room
raises-requires-clause-room g c = room-raised c.args.state.now c.args.notification c.args.badge c.requires.room

pub hear-requires-clause-stands : goal.hear-requires-clause-stands
hear-requires-clause-stands g c =
    let R : Log = so_far c.args.state.now in
    let h : IsReached R c.args.notification c.in-Some.hearer = reached-is R c.args.notification c.in-Some.hearer c.is_sound.ensures.sound c.requires.waiting (sym c.reached-hearer.ensures ∙ c.in-Some.is) in
    rw c.raises.ensures h.stands

pub hear-requires-clause-pending : goal.hear-requires-clause-pending
hear-requires-clause-pending g c =
    let R : Log = so_far c.args.state.now in
    let h : IsReached R c.args.notification c.in-Some.hearer = reached-is R c.args.notification c.in-Some.hearer c.is_sound.ensures.sound c.requires.waiting (sym c.reached-hearer.ensures ∙ c.in-Some.is) in
    rw c.raises.ensures (raised-word R c.args.notification c.args.badge h.silent)

pub hear-requires-clause-alone : goal.hear-requires-clause-alone
hear-requires-clause-alone g c =
    let R : Log = so_far c.args.state.now in
    let h : IsReached R c.args.notification c.in-Some.hearer = reached-is R c.args.notification c.in-Some.hearer c.is_sound.ensures.sound c.requires.waiting (sym c.reached-hearer.ensures ∙ c.in-Some.is) in
    rw c.raises.ensures h.alone

pub hear-requires-clause-room : goal.hear-requires-clause-room
hear-requires-clause-room g c = room-heard c.args.state.now c.args.notification c.args.badge c.raises.new.self (Some c.in-Some.hearer) (sym c.in-Some.is ∙ c.reached-hearer.ensures) c.raises.ensures c.requires.room

pub returns-in-None : goal.returns-in-None
returns-in-None g c = signal-made c.args.state.now c.args.notification c.args.badge c.raises.new.self c.raises.new.self None (sym c.in-None.is ∙ c.reached-hearer.ensures) c.raises.ensures refl

pub returns-in-Some : goal.returns-in-Some
returns-in-Some g c = signal-made c.args.state.now c.args.notification c.args.badge c.raises.new.self c.hear.new.state (Some c.in-Some.hearer) (sym c.in-Some.is ∙ c.reached-hearer.ensures) c.raises.ensures c.hear.ensures
