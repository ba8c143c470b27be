use Rattle.std.proofs.Common.{sym, ◌∙◌, subst, true}
use Rattle.mcs_types.specs.declared.entry.Entry.TheVariants.{ReplyRecv}
use Rattle.mcs_book.specs.Taking.{pay}
use Rattle.mcs_book.specs.Table.{wakes}
use Rattle.mcs_book.specs.Threads.{mode_of}
use Rattle.mcs_state.specs.Now.{so_far}
use Rattle.mcs_state.proofs.Doing.{so_far-made, after, refused, acted, room-wakes, room-acts, room-before, room-then}
use Rattle.mcs_ipc.specs.Ready.{IsReceivingFrom}
use Rattle.mcs_ipc.specs.Rows.{source_act, reply_receive_act}
use Rattle.mcs_ipc.proofs.Rows.{reply_receive-row}
use Rattle.mcs_ipc.proofs.Sources.{replied-there, woken-receives}
use Rattle.mcs_ipc.proofs.Paying.{paid-receives}
use Rattle.mcs_ipc.proofs.receives.reply_receive.Goals as goal

pub wake-requires-clause-room : goal.wake-requires-clause-room
wake-requires-clause-room g c =
    let row = reply_receive-row (so_far c.args.state.now) c.args.core c.args.thread c.args.address c.args.reply c.args.message _ _ c.source_to_reply.ensures c.in-Ok.is in
    room-wakes c.args.state.now c.args.core c.args.thread (ReplyRecv c.args.address c.args.reply c.args.message) (reply_receive_act c.args.message c.args.thread c.in-Ok.at) row c.requires.room

pub pay-requires : goal.pay-requires
pay-requires g c =
    let row = reply_receive-row (so_far c.args.state.now) c.args.core c.args.thread c.args.address c.args.reply c.args.message _ _ c.source_to_reply.ensures c.in-Ok.is in
    room-before (pay c.in-Ok.at.reply c.args.message) (source_act true c.args.thread c.in-Ok.at.source) c.wake.new.state
    (room-acts c.args.state.now c.wake.new.state c.args.core c.args.thread (ReplyRecv c.args.address c.args.reply c.args.message) (reply_receive_act c.args.message c.args.thread c.in-Ok.at) row c.wake.ensures c.requires.room)

pub receive_from-requires-clause-receiving : goal.receive_from-requires-clause-receiving
receive_from-requires-clause-receiving g c =
    let R = so_far c.args.state.now in
    let woke = so_far-made (wakes (mode_of R c.args.thread) c.args.thread) c.args.state.now c.wake.new.state c.wake.ensures in
    let paid = so_far-made (pay c.in-Ok.at.reply c.args.message) c.wake.new.state c.pay.new.state c.pay.ensures in
    let there = replied-there R c.args.thread c.args.address c.args.reply c.in-Ok.at c.is_sound.ensures.sound (sym c.source_to_reply.ensures ∙ c.in-Ok.is) in
    let was = subst (λ S. IsReceivingFrom S c.args.thread c.in-Ok.at.source) (sym woke) (woken-receives R c.args.thread c.in-Ok.at.source c.requires.entering c.requires.stand there) in
    subst (λ S. IsReceivingFrom S c.args.thread c.in-Ok.at.source) (sym paid) (paid-receives (so_far c.wake.new.state) c.args.thread c.in-Ok.at.source c.in-Ok.at.reply c.args.message was)

pub receive_from-requires-clause-room : goal.receive_from-requires-clause-room
receive_from-requires-clause-room g c =
    let row = reply_receive-row (so_far c.args.state.now) c.args.core c.args.thread c.args.address c.args.reply c.args.message _ _ c.source_to_reply.ensures c.in-Ok.is in
    room-then (pay c.in-Ok.at.reply c.args.message) (source_act true c.args.thread c.in-Ok.at.source) c.wake.new.state c.pay.new.state c.pay.ensures
    (room-acts c.args.state.now c.wake.new.state c.args.core c.args.thread (ReplyRecv c.args.address c.args.reply c.args.message) (reply_receive_act c.args.message c.args.thread c.in-Ok.at) row c.wake.ensures c.requires.room)

pub returns-in-Err : goal.returns-in-Err
returns-in-Err g c =
    let row = reply_receive-row (so_far c.args.state.now) c.args.core c.args.thread c.args.address c.args.reply c.args.message _ _ c.source_to_reply.ensures c.in-Err.is in
    refused c.args.state.now c.args.core c.args.thread (ReplyRecv c.args.address c.args.reply c.args.message) c.in-Err.refusal row

pub returns-in-Ok : goal.returns-in-Ok
returns-in-Ok g c =
    let row = reply_receive-row (so_far c.args.state.now) c.args.core c.args.thread c.args.address c.args.reply c.args.message _ _ c.source_to_reply.ensures c.in-Ok.is in
    acted c.args.state.now c.wake.new.state c.receive_from.new.state c.args.core c.args.thread (ReplyRecv c.args.address c.args.reply c.args.message) (reply_receive_act c.args.message c.args.thread c.in-Ok.at) c.receive_from.new.answer row c.wake.ensures
    (after (pay c.in-Ok.at.reply c.args.message) (source_act true c.args.thread c.in-Ok.at.source) c.wake.new.state c.pay.new.state c.receive_from.new.state c.receive_from.new.answer c.pay.ensures c.receive_from.ensures)
