use Rattle.std.proofs.Common.{sym, subst, true, false}
use Rattle.mcs_types.specs.declared.record.SendMode.TheVariants.{Give}
use Rattle.mcs_book.specs.Pieces.{Piece, silently}
use Rattle.mcs_state.specs.Now.{so_far}
use Rattle.mcs_state.proofs.Doing.{so_far-made, after, room-before, room-then}
use Rattle.mcs_ipc.specs.Ready.{IsReceivingFrom}
use Rattle.mcs_ipc.specs.Rows.{target_act, source_act}
use Rattle.mcs_ipc.proofs.Halves.{given-receives}
use Rattle.mcs_ipc.proofs.exchanges.send_and_receive.Goals as goal

pub send_target-requires-clause-room : goal.send_target-requires-clause-room
send_target-requires-clause-room g c =
    let sending : Piece = silently (target_act false Give c.args.thread c.args.message c.args.at.target) in
    room-before sending (source_act true c.args.thread c.args.at.source) c.args.state.now c.requires.room

pub receive_from-requires-clause-receiving : goal.receive_from-requires-clause-receiving
receive_from-requires-clause-receiving g c =
    let R = so_far c.args.state.now in
    let sending : Piece = silently (target_act false Give c.args.thread c.args.message c.args.at.target) in
    let sent = so_far-made sending c.args.state.now c.send_target.new.state c.send_target.ensures.records in
    subst (λ S. IsReceivingFrom S c.args.thread c.args.at.source) (sym sent)
    (given-receives R c.args.thread c.args.at.target c.args.message c.args.at.source c.is_sound.ensures.sound c.requires.waiting c.requires.receiving)

pub receive_from-requires-clause-room : goal.receive_from-requires-clause-room
receive_from-requires-clause-room g c =
    let sending : Piece = silently (target_act false Give c.args.thread c.args.message c.args.at.target) in
    room-then sending (source_act true c.args.thread c.args.at.source) c.args.state.now c.send_target.new.state c.send_target.ensures.records c.requires.room

pub returns : goal.returns
returns g c =
    let sending : Piece = silently (target_act false Give c.args.thread c.args.message c.args.at.target) in
    after sending (source_act true c.args.thread c.args.at.source) c.args.state.now c.send_target.new.state c.receive_from.new.state c.receive_from.new.answer c.send_target.ensures.records c.receive_from.ensures
