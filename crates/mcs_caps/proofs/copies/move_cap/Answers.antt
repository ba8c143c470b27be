use Rattle.std.proofs.lemmas.Result.{err_from_is_err_and}
use Rattle.mcs_types.specs.declared.entry.Entry.TheVariants.{MoveCap}
use Rattle.mcs_state.specs.Now.{so_far}
use Rattle.mcs_caps.specs.Rows.{moves_act}
use Rattle.mcs_caps.proofs.Rows.{row-move, row-refused, row-room, row-acts}
use Rattle.mcs_caps.proofs.copies.move_cap.Goals as goal

pub shift-requires-clause-room : goal.shift-requires-clause-room
shift-requires-clause-room g c =
    let row = row-move (so_far c.args.state.now) c.args.core c.args.thread c.args.source c.args.dest c.find_places.result c.find_places.ensures.places in
    row-room c.args.state.now c.args.core c.args.thread (MoveCap c.args.source c.args.dest) c.find_places.result moves_act c.in_ok-at.at row c.in_ok-at.was c.requires.room

pub returns-in_err-at : goal.returns-in_err-at
returns-in_err-at g c =
    let row = row-move (so_far c.args.state.now) c.args.core c.args.thread c.args.source c.args.dest c.find_places.result c.find_places.ensures.places in
    let p = err_from_is_err_and c.from_residual.result c.from_residual.ensures.1 in
    rw (p.1, p.2) (row-refused c.args.state.now c.args.core c.args.thread (MoveCap c.args.source c.args.dest) c.find_places.result moves_act c.in_err-at.field-0.0 row c.in_err-at.was)

pub returns : goal.returns
returns g c =
    let row = row-move (so_far c.args.state.now) c.args.core c.args.thread c.args.source c.args.dest c.find_places.result c.find_places.ensures.places in
    row-acts c.args.state.now c.shift.new.state c.args.core c.args.thread (MoveCap c.args.source c.args.dest) c.find_places.result moves_act c.in_ok-at.at _ row c.in_ok-at.was c.shift.ensures
