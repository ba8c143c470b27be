use Rattle.std.proofs.Common.{arith}
use Rattle.mcs_types.specs.declared.record.Rec.TheVariants as rec
use Rattle.mcs_book.specs.Pieces.{say}
use Rattle.mcs_book.specs.Receiving.{go_home, stand}
use Rattle.mcs_state.proofs.Doing.{makes-then, room-first, room-next}
use Rattle.mcs_state.proofs.contexts.stand.Goals as goal

pub joins-requires-clause-room : goal.joins-requires-clause-room
unfolding stand
joins-requires-clause-room g c =
    let room = room-first (say (rec.Joins c.args.thread c.args.queue c.args.reply)) (go_home c.args.thread c.args.notification) c.args.state.now c.requires.room in
    omega (arith, room)

pub go_home-requires : goal.go_home-requires
unfolding stand
go_home-requires g c = record { room = room-next (say (rec.Joins c.args.thread c.args.queue c.args.reply)) (go_home c.args.thread c.args.notification) c.args.state.now c.joins.new.self c.joins.ensures c.requires.room }

pub returns : goal.returns
unfolding stand
returns g c = makes-then (say (rec.Joins c.args.thread c.args.queue c.args.reply)) (go_home c.args.thread c.args.notification) c.args.state.now c.joins.new.self c.go_home.new.state c.joins.ensures c.go_home.ensures
