use Rattle.std.proofs.Common.{sym, ◌∙◌, subst, true}
use Rattle.std.proofs.lemmas.Result.{err_from_is_err_and}
use Rattle.mcs_types.specs.declared.entry.Entry.TheVariants.{Call}
use Rattle.mcs_book.specs.Table.{wakes}
use Rattle.mcs_book.specs.Threads.{mode_of}
use Rattle.mcs_state.specs.Now.{so_far}
use Rattle.mcs_state.specs.Doing.{Acts, FitsAct}
use Rattle.mcs_state.proofs.Doing.{so_far-made, refused, acted, room-wakes, room-acts}
use Rattle.mcs_ipc.specs.Ready.{IsSending}
use Rattle.mcs_ipc.specs.Rows.{said, send_act}
use Rattle.mcs_ipc.proofs.Facts.{woken-calls}
use Rattle.mcs_ipc.proofs.Rows.{call-row, calls}
use Rattle.mcs_ipc.proofs.sends.call.Goals as goal

pub wake-requires-clause-room : goal.wake-requires-clause-room
wake-requires-clause-room g c =
    let row = call-row (so_far c.args.state.now) c.args.core c.args.thread c.args.address c.args.message _ _ c.cap_to_call.ensures c.in_ok-cap.was in
    room-wakes c.args.state.now c.args.core c.args.thread (Call c.args.address c.args.message) (calls c.args.thread c.args.message c.in_ok-cap.cap) row c.requires.room

pub send_over-requires-clause-sending : goal.send_over-requires-clause-sending
send_over-requires-clause-sending g c =
    let R = so_far c.args.state.now in
    let so = so_far-made (wakes (mode_of R c.args.thread) c.args.thread) c.args.state.now c.wake.new.state c.wake.ensures in
    subst (λ S. IsSending S c.args.thread c.in_ok-cap.cap.obj) (sym so) (woken-calls R c.args.thread c.args.address c.in_ok-cap.cap c.is_sound.ensures.sound c.requires.entering c.requires.stand (sym c.cap_to_call.ensures ∙ c.in_ok-cap.was))

pub send_over-requires-clause-room : goal.send_over-requires-clause-room
send_over-requires-clause-room g c =
    let row = call-row (so_far c.args.state.now) c.args.core c.args.thread c.args.address c.args.message _ _ c.cap_to_call.ensures c.in_ok-cap.was in
    subst (λ mode. FitsAct (send_act true mode c.args.thread c.in_ok-cap.cap.obj c.in_ok-cap.cap.badge c.args.message) c.wake.new.state) (sym c.call_mode-mode.ensures)
    (room-acts c.args.state.now c.wake.new.state c.args.core c.args.thread (Call c.args.address c.args.message) (calls c.args.thread c.args.message c.in_ok-cap.cap) row c.wake.ensures c.requires.room)

pub returns-in_err-cap : goal.returns-in_err-cap
returns-in_err-cap g c =
    let row = call-row (so_far c.args.state.now) c.args.core c.args.thread c.args.address c.args.message _ _ c.cap_to_call.ensures c.in_err-cap.was in
    let p = err_from_is_err_and c.from_residual.result c.from_residual.ensures.1 in
    rw (p.1, p.2) (refused c.args.state.now c.args.core c.args.thread (Call c.args.address c.args.message) c.in_err-cap.field-0.0 row)

pub returns : goal.returns
returns g c =
    let row = call-row (so_far c.args.state.now) c.args.core c.args.thread c.args.address c.args.message _ _ c.cap_to_call.ensures c.in_ok-cap.was in
    acted c.args.state.now c.wake.new.state c.send_over.new.state c.args.core c.args.thread (Call c.args.address c.args.message) (calls c.args.thread c.args.message c.in_ok-cap.cap) (said c.send_over.result) row c.wake.ensures
    (subst (λ mode. Acts (send_act true mode c.args.thread c.in_ok-cap.cap.obj c.in_ok-cap.cap.badge c.args.message) c.wake.new.state (said c.send_over.result) c.send_over.new.state) c.call_mode-mode.ensures c.send_over.ensures)
