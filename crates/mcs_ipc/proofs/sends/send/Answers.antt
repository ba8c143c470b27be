use Rattle.std.proofs.Common.{sym, ◌∙◌, subst}
use Rattle.std.proofs.lemmas.Result.{err_from_is_err_and}
use Rattle.mcs_types.specs.declared.record.SendMode.TheVariants.{Plain}
use Rattle.mcs_book.specs.Table.{wakes}
use Rattle.mcs_book.specs.Threads.{mode_of}
use Rattle.mcs_state.specs.Now.{so_far}
use Rattle.mcs_state.proofs.Doing.{so_far-made, refused, acted, room-wakes, room-acts}
use Rattle.mcs_state.specs.Entering.{OnlyBoundWait}
use Rattle.mcs_state.proofs.Woken.{woken-wait}
use Rattle.mcs_ipc.specs.Ready.{IsSendingOver}
use Rattle.mcs_ipc.specs.Rows.{said, send_entry, target_act}
use Rattle.mcs_ipc.proofs.Facts.{woken-sends}
use Rattle.mcs_ipc.proofs.Rows.{send-row}
use Rattle.mcs_ipc.proofs.sends.send.Goals as goal

pub wake-requires-clause-room : goal.wake-requires-clause-room
wake-requires-clause-room g c =
    let row = send-row (so_far c.args.state.now) c.args.core c.args.thread c.args.blocks c.args.address c.args.message _ _ c.target_to_send.ensures c.in_ok-target.was in
    room-wakes c.args.state.now c.args.core c.args.thread (send_entry c.args.blocks c.args.address c.args.message) (target_act c.args.blocks Plain c.args.thread c.args.message c.in_ok-target.target) row c.requires.room

pub send_target-requires-clause-sending : goal.send_target-requires-clause-sending
send_target-requires-clause-sending g c =
    let R = so_far c.args.state.now in
    let so = so_far-made (wakes (mode_of R c.args.thread) c.args.thread) c.args.state.now c.wake.new.state c.wake.ensures in
    subst (λ S. IsSendingOver S c.args.thread c.in_ok-target.target) (sym so) (woken-sends R c.args.thread c.args.address c.in_ok-target.target c.is_sound.ensures.sound c.requires.entering c.requires.stand (sym c.target_to_send.ensures ∙ c.in_ok-target.was))

pub send_target-requires-clause-waiting : goal.send_target-requires-clause-waiting
send_target-requires-clause-waiting g c =
    let R = so_far c.args.state.now in
    let so = so_far-made (wakes (mode_of R c.args.thread) c.args.thread) c.args.state.now c.wake.new.state c.wake.ensures in
    subst (λ S. OnlyBoundWait S) (sym so) (woken-wait R c.args.thread c.requires.waiting)

pub send_target-requires-clause-room : goal.send_target-requires-clause-room
send_target-requires-clause-room g c =
    let row = send-row (so_far c.args.state.now) c.args.core c.args.thread c.args.blocks c.args.address c.args.message _ _ c.target_to_send.ensures c.in_ok-target.was in
    room-acts c.args.state.now c.wake.new.state c.args.core c.args.thread (send_entry c.args.blocks c.args.address c.args.message) (target_act c.args.blocks Plain c.args.thread c.args.message c.in_ok-target.target) row c.wake.ensures c.requires.room

pub returns-in_err-target : goal.returns-in_err-target
returns-in_err-target g c =
    let row = send-row (so_far c.args.state.now) c.args.core c.args.thread c.args.blocks c.args.address c.args.message _ _ c.target_to_send.ensures c.in_err-target.was in
    let p = err_from_is_err_and c.from_residual.result c.from_residual.ensures.1 in
    rw (p.1, p.2) (refused c.args.state.now c.args.core c.args.thread (send_entry c.args.blocks c.args.address c.args.message) c.in_err-target.field-0.0 row)

pub returns : goal.returns
returns g c =
    let row = send-row (so_far c.args.state.now) c.args.core c.args.thread c.args.blocks c.args.address c.args.message _ _ c.target_to_send.ensures c.in_ok-target.was in
    acted c.args.state.now c.wake.new.state c.send_target.new.state c.args.core c.args.thread (send_entry c.args.blocks c.args.address c.args.message) (target_act c.args.blocks Plain c.args.thread c.args.message c.in_ok-target.target) (said c.send_target.result) row c.wake.ensures c.send_target.ensures
