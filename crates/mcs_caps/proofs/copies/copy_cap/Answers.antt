use Rattle.std.proofs.lemmas.Result.{err_from_is_err_and}
use Rattle.mcs_types.specs.declared.entry.Entry.TheVariants.{CopyCap}
use Rattle.mcs_state.specs.Now.{so_far}
use Rattle.mcs_caps.proofs.Rows.{copies, row-copy, row-refused, row-room, room-any, row-acts}
use Rattle.mcs_caps.proofs.copies.copy_cap.Goals as goal

pub fill-requires-clause-room : goal.fill-requires-clause-room
fill-requires-clause-room g c =
    let row = row-copy (so_far c.args.state.now) c.args.core c.args.thread c.args.source c.args.dest c.args.rights c.find_places.result c.find_places.ensures.places in
    room-any c.args.thread c.in_ok-at.at _ c.with_mask.result c.args.state.now (row-room c.args.state.now c.args.core c.args.thread (CopyCap c.args.source c.args.dest c.args.rights) c.find_places.result (copies c.args.rights) c.in_ok-at.at row c.in_ok-at.was c.requires.room)

pub returns-in_err-at : goal.returns-in_err-at
returns-in_err-at g c =
    let row = row-copy (so_far c.args.state.now) c.args.core c.args.thread c.args.source c.args.dest c.args.rights c.find_places.result c.find_places.ensures.places in
    let p = err_from_is_err_and c.from_residual.result c.from_residual.ensures.1 in
    rw (p.1, p.2) (row-refused c.args.state.now c.args.core c.args.thread (CopyCap c.args.source c.args.dest c.args.rights) c.find_places.result (copies c.args.rights) c.in_err-at.field-0.0 row c.in_err-at.was)

pub returns : goal.returns
returns g c =
    let row = row-copy (so_far c.args.state.now) c.args.core c.args.thread c.args.source c.args.dest c.args.rights c.find_places.result c.find_places.ensures.places in
    row-acts c.args.state.now c.fill.new.state c.args.core c.args.thread (CopyCap c.args.source c.args.dest c.args.rights) c.find_places.result (copies c.args.rights) c.in_ok-at.at _ row c.in_ok-at.was (rw c.with_mask.ensures at c.fill.ensures)
