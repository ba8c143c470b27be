use Rattle.std.proofs.Common.{sym, subst}
use Rattle.mcs_book.specs.Pieces.{Act, with_any}
use Rattle.mcs_book.specs.Receiving.{free, receive_message}
use Rattle.mcs_state.specs.Now.{so_far}
use Rattle.mcs_state.specs.Doing.{Acts, FitsAct}
use Rattle.mcs_state.proofs.Doing.{so_far-made, after, room-before, room-then}
use Rattle.mcs_ipc.specs.Ready.{IsReady}
use Rattle.mcs_ipc.proofs.Rows.{receive-parts}
use Rattle.mcs_ipc.proofs.Freeing.{freed-ready}
use Rattle.mcs_ipc.proofs.receives.receive_on.Goals as goal

pub free_any-requires-clause-room : goal.free_any-requires-clause-room
free_any-requires-clause-room g c =
    let parts = receive-parts c.args.blocks c.args.thread c.args.endpoint c.args.reply in
    room-before (with_any c.args.reply free) (receive_message c.args.thread c.args.endpoint c.args.reply c.args.blocks) c.args.state.now (subst (λ (act : Act). FitsAct act c.args.state.now) parts c.requires.room)

pub hear_or_take-requires-clause-ready : goal.hear_or_take-requires-clause-ready
hear_or_take-requires-clause-ready g c =
    let freed = so_far-made (with_any c.args.reply free) c.args.state.now c.free_any.new.state c.free_any.ensures in
    subst (λ S. IsReady S c.args.thread c.args.endpoint c.args.reply) (sym freed) (freed-ready (so_far c.args.state.now) c.args.thread c.args.endpoint c.args.reply c.is_sound.ensures.sound c.requires.receiving)

pub hear_or_take-requires-clause-room : goal.hear_or_take-requires-clause-room
hear_or_take-requires-clause-room g c =
    let parts = receive-parts c.args.blocks c.args.thread c.args.endpoint c.args.reply in
    room-then (with_any c.args.reply free) (receive_message c.args.thread c.args.endpoint c.args.reply c.args.blocks) c.args.state.now c.free_any.new.state c.free_any.ensures (subst (λ (act : Act). FitsAct act c.args.state.now) parts c.requires.room)

pub returns : goal.returns
returns g c =
    let parts = receive-parts c.args.blocks c.args.thread c.args.endpoint c.args.reply in
    subst (λ (act : Act). Acts act c.args.state.now c.hear_or_take.new.answer c.hear_or_take.new.state) (sym parts)
    (after (with_any c.args.reply free) (receive_message c.args.thread c.args.endpoint c.args.reply c.args.blocks) c.args.state.now c.free_any.new.state c.hear_or_take.new.state c.hear_or_take.new.answer c.free_any.ensures c.hear_or_take.ensures)
