use Rattle.std.proofs.Common.{sym, ◌∙◌, subst}
use Rattle.mcs_book.specs.Table.{wakes}
use Rattle.mcs_book.specs.Threads.{mode_of}
use Rattle.mcs_state.specs.Now.{so_far}
use Rattle.mcs_state.proofs.Doing.{so_far-made, refused, acted, room-wakes, room-acts}
use Rattle.mcs_ipc.specs.Ready.{IsReceivingFrom}
use Rattle.mcs_ipc.specs.Rows.{receive_entry, source_act}
use Rattle.mcs_ipc.proofs.Rows.{receive-row}
use Rattle.mcs_ipc.proofs.Sources.{source-there, woken-receives}
use Rattle.mcs_ipc.proofs.receives.receive.Goals as goal

pub wake-requires-clause-room : goal.wake-requires-clause-room
wake-requires-clause-room g c =
    let row = receive-row (so_far c.args.state.now) c.args.core c.args.thread c.args.blocks c.args.address c.args.reply _ _ c.source_to_receive.ensures c.in-Ok.is in
    room-wakes c.args.state.now c.args.core c.args.thread (receive_entry c.args.blocks c.args.address c.args.reply) (source_act c.args.blocks c.args.thread c.in-Ok.source) row c.requires.room

pub receive_from-requires-clause-receiving : goal.receive_from-requires-clause-receiving
receive_from-requires-clause-receiving g c =
    let R = so_far c.args.state.now in
    let woke = so_far-made (wakes (mode_of R c.args.thread) c.args.thread) c.args.state.now c.wake.new.state c.wake.ensures in
    let there = source-there R c.args.thread c.args.address c.args.reply c.in-Ok.source c.is_sound.ensures.sound (sym c.source_to_receive.ensures ∙ c.in-Ok.is) in
    subst (λ S. IsReceivingFrom S c.args.thread c.in-Ok.source) (sym woke) (woken-receives R c.args.thread c.in-Ok.source c.requires.entering c.requires.stand there)

pub receive_from-requires-clause-room : goal.receive_from-requires-clause-room
receive_from-requires-clause-room g c =
    let row = receive-row (so_far c.args.state.now) c.args.core c.args.thread c.args.blocks c.args.address c.args.reply _ _ c.source_to_receive.ensures c.in-Ok.is in
    room-acts c.args.state.now c.wake.new.state c.args.core c.args.thread (receive_entry c.args.blocks c.args.address c.args.reply) (source_act c.args.blocks c.args.thread c.in-Ok.source) row c.wake.ensures c.requires.room

pub returns-in-Err : goal.returns-in-Err
returns-in-Err g c =
    let row = receive-row (so_far c.args.state.now) c.args.core c.args.thread c.args.blocks c.args.address c.args.reply _ _ c.source_to_receive.ensures c.in-Err.is in
    refused c.args.state.now c.args.core c.args.thread (receive_entry c.args.blocks c.args.address c.args.reply) c.in-Err.refusal row

pub returns-in-Ok : goal.returns-in-Ok
returns-in-Ok g c =
    let row = receive-row (so_far c.args.state.now) c.args.core c.args.thread c.args.blocks c.args.address c.args.reply _ _ c.source_to_receive.ensures c.in-Ok.is in
    acted c.args.state.now c.wake.new.state c.receive_from.new.state c.args.core c.args.thread (receive_entry c.args.blocks c.args.address c.args.reply) (source_act c.args.blocks c.args.thread c.in-Ok.source) c.receive_from.new.answer row c.wake.ensures c.receive_from.ensures
