use Rattle.std.proofs.Common.{sym, ◌∙◌, subst}
use Rattle.mcs_book.specs.Table.{wakes}
use Rattle.mcs_book.specs.Threads.{mode_of}
use Rattle.mcs_state.specs.Entering.{OnlyBoundWait}
use Rattle.mcs_state.specs.Now.{so_far}
use Rattle.mcs_state.proofs.Doing.{so_far-made, refused, acted, room-wakes, room-acts}
use Rattle.mcs_state.proofs.Woken.{woken-wait}
use Rattle.mcs_ipc.specs.Ready.{IsReceivingFrom, IsSendingOver}
use Rattle.mcs_ipc.specs.Rows.{sendable, exchange_entry, exchange_act}
use Rattle.mcs_ipc.specs.Sources.{receivable}
use Rattle.mcs_ipc.proofs.Facts.{woken-sends}
use Rattle.mcs_ipc.proofs.Halves.{exchange-ends}
use Rattle.mcs_ipc.proofs.Rows.{exchange-row}
use Rattle.mcs_ipc.proofs.Sources.{source-there, woken-receives}
use Rattle.mcs_ipc.proofs.exchanges.exchange.Goals as goal

pub wake-requires-clause-room : goal.wake-requires-clause-room
wake-requires-clause-room g c =
    let a = c.args in
    let row = exchange-row (so_far a.state.now) a.core a.thread a.ends.target a.ends.source a.reply a.message _ _ c.ends_of_exchange.ensures c.in-Ok.is in
    room-wakes a.state.now a.core a.thread (exchange_entry a.ends.target a.ends.source a.reply a.message) (exchange_act a.message a.thread c.in-Ok.at) row c.requires.room

pub send_and_receive-requires-clause-sending : goal.send_and_receive-requires-clause-sending
send_and_receive-requires-clause-sending g c =
    let a = c.args in
    let R = so_far a.state.now in
    let woke = so_far-made (wakes (mode_of R a.thread) a.thread) a.state.now c.wake.new.state c.wake.ensures in
    let ends = exchange-ends (sendable R a.thread a.ends.target) (receivable R a.thread a.ends.source a.reply) c.in-Ok.at (sym c.ends_of_exchange.ensures ∙ c.in-Ok.is) in
    subst (λ S. IsSendingOver S a.thread c.in-Ok.at.target) (sym woke) (woken-sends R a.thread a.ends.target c.in-Ok.at.target c.is_sound.ensures.sound c.requires.entering c.requires.stand ends.0)

pub send_and_receive-requires-clause-receiving : goal.send_and_receive-requires-clause-receiving
send_and_receive-requires-clause-receiving g c =
    let a = c.args in
    let R = so_far a.state.now in
    let woke = so_far-made (wakes (mode_of R a.thread) a.thread) a.state.now c.wake.new.state c.wake.ensures in
    let ends = exchange-ends (sendable R a.thread a.ends.target) (receivable R a.thread a.ends.source a.reply) c.in-Ok.at (sym c.ends_of_exchange.ensures ∙ c.in-Ok.is) in
    let there = source-there R a.thread a.ends.source a.reply c.in-Ok.at.source c.is_sound.ensures.sound ends.1 in
    subst (λ S. IsReceivingFrom S a.thread c.in-Ok.at.source) (sym woke) (woken-receives R a.thread c.in-Ok.at.source c.requires.entering c.requires.stand there)

pub send_and_receive-requires-clause-waiting : goal.send_and_receive-requires-clause-waiting
send_and_receive-requires-clause-waiting g c =
    let R = so_far c.args.state.now in
    let woke = so_far-made (wakes (mode_of R c.args.thread) c.args.thread) c.args.state.now c.wake.new.state c.wake.ensures in
    subst (λ S. OnlyBoundWait S) (sym woke) (woken-wait R c.args.thread c.requires.waiting)

pub send_and_receive-requires-clause-room : goal.send_and_receive-requires-clause-room
send_and_receive-requires-clause-room g c =
    let a = c.args in
    let row = exchange-row (so_far a.state.now) a.core a.thread a.ends.target a.ends.source a.reply a.message _ _ c.ends_of_exchange.ensures c.in-Ok.is in
    room-acts a.state.now c.wake.new.state a.core a.thread (exchange_entry a.ends.target a.ends.source a.reply a.message) (exchange_act a.message a.thread c.in-Ok.at) row c.wake.ensures c.requires.room

pub returns-in-Err : goal.returns-in-Err
returns-in-Err g c =
    let a = c.args in
    let row = exchange-row (so_far a.state.now) a.core a.thread a.ends.target a.ends.source a.reply a.message _ _ c.ends_of_exchange.ensures c.in-Err.is in
    refused a.state.now a.core a.thread (exchange_entry a.ends.target a.ends.source a.reply a.message) c.in-Err.refusal row

pub returns-in-Ok : goal.returns-in-Ok
returns-in-Ok g c =
    let a = c.args in
    let row = exchange-row (so_far a.state.now) a.core a.thread a.ends.target a.ends.source a.reply a.message _ _ c.ends_of_exchange.ensures c.in-Ok.is in
    acted a.state.now c.wake.new.state c.send_and_receive.new.state a.core a.thread (exchange_entry a.ends.target a.ends.source a.reply a.message) (exchange_act a.message a.thread c.in-Ok.at) c.send_and_receive.new.answer row c.wake.ensures c.send_and_receive.ensures
