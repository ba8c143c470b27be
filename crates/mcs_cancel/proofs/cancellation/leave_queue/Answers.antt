use Rattle.std.proofs.Common.{arith}
use Rattle.mcs_types.specs.declared.record.Rec.TheVariants as rec
use Rattle.mcs_book.specs.Pieces.{say}
use Rattle.mcs_cancel.specs.Leaving.{drops_from, leaves_queue}
use Rattle.mcs_cancel.proofs.Leaving.{room-one, room-other, both-made, queue-left}
use Rattle.mcs_cancel.proofs.cancellation.leave_queue.Goals as goal

pub drop_letter-requires : goal.drop_letter-requires
drop_letter-requires g c =
    let x = c.args.thread in
    let q = c.args.queue in
    record { room = room-one (leaves_queue x q) (drops_from x q) (say (rec.Parts x q)) (queue-left x q) c.args.state.now c.requires.room }

pub parts-requires-clause-room : goal.parts-requires-clause-room
parts-requires-clause-room g c =
    let x = c.args.thread in
    let q = c.args.queue in
    let room = room-other (leaves_queue x q) (drops_from x q) (say (rec.Parts x q)) (queue-left x q) c.args.state.now c.drop_letter.new.state c.drop_letter.ensures c.requires.room in
    omega (arith, room)

pub returns : goal.returns
returns g c =
    let x = c.args.thread in
    let q = c.args.queue in
    both-made (leaves_queue x q) (drops_from x q) (say (rec.Parts x q)) (queue-left x q) c.args.state.now c.drop_letter.new.state c.parts.new.self c.drop_letter.ensures c.parts.ensures
