use Rattle.std.proofs.Common.{arith}
use Rattle.mcs_types.specs.declared.record.Rec.TheVariants as rec
use Rattle.mcs_book.specs.Cancelling.{destroy}
use Rattle.mcs_book.specs.Pieces.{say}
use Rattle.mcs_state.specs.Now.{so_far}
use Rattle.mcs_state.proofs.Doing.{so_far-made}
use Rattle.mcs_cancel.specs.Releasing.{releases}
use Rattle.mcs_cancel.proofs.Leaving.{room-one, room-other, both-made}
use Rattle.mcs_cancel.proofs.Releasing.{destroy-is, may-close}
use Rattle.mcs_cancel.proofs.destruction.destroy.Goals as goal

pub release_object-requires-clause-room : goal.release_object-requires-clause-room
release_object-requires-clause-room g c =
    let o = c.args.object in
    room-one (destroy o) (releases o o.kind) (say (rec.Closed o)) (destroy-is o) c.args.state.now c.requires.room

pub closes-requires-clause-allowed : goal.closes-requires-clause-allowed
closes-requires-clause-allowed g c =
    let o = c.args.object in
    may-close (so_far c.args.state.now) (so_far c.release_object.new.state) o c.requires.there c.requires.unnamed (so_far-made (releases o o.kind) c.args.state.now c.release_object.new.state c.release_object.ensures.made) c.release_object.ensures.released

pub closes-requires-clause-room : goal.closes-requires-clause-room
closes-requires-clause-room g c =
    let o = c.args.object in
    let room = room-other (destroy o) (releases o o.kind) (say (rec.Closed o)) (destroy-is o) c.args.state.now c.release_object.new.state c.release_object.ensures.made c.requires.room in
    omega (arith, room)

pub returns : goal.returns
returns g c =
    let o = c.args.object in
    both-made (destroy o) (releases o o.kind) (say (rec.Closed o)) (destroy-is o) c.args.state.now c.release_object.new.state c.closes.new.self c.release_object.ensures.made c.closes.ensures
