use Rattle.std.proofs.Common.{sym, subst, arith}
use Rattle.mcs_types.specs.declared.record.Rec.TheVariants as rec
use Rattle.mcs_book.specs.Cancelling.{cancel}
use Rattle.mcs_book.specs.Pieces.{say}
use Rattle.mcs_book.specs.Sound.{Allowed}
use Rattle.mcs_state.specs.Now.{so_far}
use Rattle.mcs_state.proofs.Doing.{so_far-made}
use Rattle.mcs_cancel.specs.Leaving.{leaves}
use Rattle.mcs_cancel.proofs.Leaving.{room-one, room-other, both-made, left-turns, cancel-is}
use Rattle.mcs_cancel.proofs.cancellation.cancel.Goals as goal

pub leave-requires-clause-room : goal.leave-requires-clause-room
leave-requires-clause-room g c =
    let x = c.args.thread in
    room-one (cancel x c.args.mode) (leaves x) (say (rec.Turns x c.args.mode)) (cancel-is x c.args.mode) c.args.state.now c.requires.room

pub turns-requires-clause-allowed : goal.turns-requires-clause-allowed
turns-requires-clause-allowed g c =
    let so = so_far-made (leaves c.args.thread) c.args.state.now c.leave.new.state c.leave.ensures in
    subst (λ S. Allowed S (rec.Turns c.args.thread c.args.mode)) (sym so) (left-turns (so_far c.args.state.now) c.args.thread c.args.mode c.is_sound.ensures.sound c.requires.there)

pub turns-requires-clause-room : goal.turns-requires-clause-room
turns-requires-clause-room g c =
    let x = c.args.thread in
    let room = room-other (cancel x c.args.mode) (leaves x) (say (rec.Turns x c.args.mode)) (cancel-is x c.args.mode) c.args.state.now c.leave.new.state c.leave.ensures c.requires.room in
    omega (arith, room)

pub returns : goal.returns
returns g c =
    let x = c.args.thread in
    both-made (cancel x c.args.mode) (leaves x) (say (rec.Turns x c.args.mode)) (cancel-is x c.args.mode) c.args.state.now c.leave.new.state c.turns.new.self c.leave.ensures c.turns.ensures
