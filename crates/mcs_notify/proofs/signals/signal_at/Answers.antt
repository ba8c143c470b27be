use Rattle.std.proofs.Common.{refl, ap, sym, ◌∙◌, subst}
use Rattle.std.proofs.lemmas.Result.{err_from_is_err_and}
use Rattle.mcs_types.specs.declared.entry.Answer.TheVariants.{Done}
use Rattle.mcs_types.specs.declared.id.Kind.TheVariants as kind
use Rattle.mcs_book.specs.Pieces.{Outcome}
use Rattle.mcs_book.specs.Sound.{IsThere}
use Rattle.mcs_book.specs.Table.{wakes}
use Rattle.mcs_book.specs.Threads.{mode_of}
use Rattle.mcs_state.specs.Checks.{act_of}
use Rattle.mcs_state.specs.Doing.{Gives, Holds}
use Rattle.mcs_state.specs.Entering.{OnlyBoundWait}
use Rattle.mcs_state.specs.Now.{so_far}
use Rattle.mcs_state.proofs.Doing.{so_far-made, refused, acted, room-wakes, room-acts}
use Rattle.mcs_notify.specs.Rows.{signal_act}
use Rattle.mcs_notify.proofs.Rows.{row-signal, signals, signalable-there}
use Rattle.mcs_state.proofs.Woken.{woken-there, woken-wait}
use Rattle.mcs_notify.proofs.signals.signal_at.Goals as goal

pub wake-requires-clause-room : goal.wake-requires-clause-room
wake-requires-clause-room g c =
    let row = row-signal (so_far c.args.state.now) c.args.core c.args.thread c.args.address ∙ ap (λ m. act_of m signal_act) (sym c.cap_to_signal.ensures ∙ c.in_ok-cap.was) in
    room-wakes c.args.state.now c.args.core c.args.thread _ (signal_act c.in_ok-cap.cap) row c.requires.room

pub signal-requires-clause-there : goal.signal-requires-clause-there
signal-requires-clause-there g c =
    let R = so_far c.args.state.now in
    let so = so_far-made (wakes (mode_of R c.args.thread) c.args.thread) c.args.state.now c.wake.new.state c.wake.ensures in
    let there = signalable-there R c.args.thread c.args.address c.in_ok-cap.cap c.is_sound.ensures.sound (sym c.cap_to_signal.ensures ∙ c.in_ok-cap.was) in
    subst (λ S. IsThere S kind.Notification c.in_ok-cap.cap.obj) (sym so) (woken-there R c.args.thread (mode_of R c.args.thread) kind.Notification c.in_ok-cap.cap.obj there)

pub signal-requires-clause-waiting : goal.signal-requires-clause-waiting
signal-requires-clause-waiting g c =
    let R = so_far c.args.state.now in
    let so = so_far-made (wakes (mode_of R c.args.thread) c.args.thread) c.args.state.now c.wake.new.state c.wake.ensures in
    subst (λ S. OnlyBoundWait S) (sym so) (woken-wait R c.args.thread c.requires.waiting)

pub signal-requires-clause-room : goal.signal-requires-clause-room
signal-requires-clause-room g c =
    let row = row-signal (so_far c.args.state.now) c.args.core c.args.thread c.args.address ∙ ap (λ m. act_of m signal_act) (sym c.cap_to_signal.ensures ∙ c.in_ok-cap.was) in
    subst (λ (o : Outcome). Holds o.records c.wake.new.state) (signals (so_far c.wake.new.state) c.in_ok-cap.cap)
    (room-acts c.args.state.now c.wake.new.state c.args.core c.args.thread _ (signal_act c.in_ok-cap.cap) row c.wake.ensures c.requires.room)

pub returns-in_err-cap : goal.returns-in_err-cap
returns-in_err-cap g c =
    let row = row-signal (so_far c.args.state.now) c.args.core c.args.thread c.args.address ∙ ap (λ m. act_of m signal_act) (sym c.cap_to_signal.ensures ∙ c.in_err-cap.was) in
    let p = err_from_is_err_and c.from_residual.result c.from_residual.ensures.1 in
    rw (p.1, p.2) (refused c.args.state.now c.args.core c.args.thread _ c.in_err-cap.field-0.0 row)

pub returns : goal.returns
returns g c =
    let row = row-signal (so_far c.args.state.now) c.args.core c.args.thread c.args.address ∙ ap (λ m. act_of m signal_act) (sym c.cap_to_signal.ensures ∙ c.in_ok-cap.was) in
    let made = subst (λ (o : Outcome). Gives o c.wake.new.state Done c.signal.new.state) (sym (signals (so_far c.wake.new.state) c.in_ok-cap.cap)) (record { records = c.signal.ensures; answer = refl }) in
    acted c.args.state.now c.wake.new.state c.signal.new.state c.args.core c.args.thread _ (signal_act c.in_ok-cap.cap) Done row c.wake.ensures made
