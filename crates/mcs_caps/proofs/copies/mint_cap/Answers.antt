use Rattle.std.proofs.Common.{sym, ◌∙◌, subst, IfOk}
use Rattle.std.proofs.lemmas.Result.{err_from_is_err_and}
use Rattle.mcs_types.specs.declared.entry.Entry.TheVariants.{MintCap}
use Rattle.mcs_state.specs.Now.{so_far}
use Rattle.mcs_caps.specs.Placed.{IsPlaced}
use Rattle.mcs_caps.specs.Rows.{mintable}
use Rattle.mcs_caps.proofs.Rows.{mints, row-mint, row-refused, row-room, room-any, row-acts, mintable-ok}
use Rattle.mcs_caps.proofs.copies.mint_cap.Goals as goal

pub fill-requires-clause-placed : goal.fill-requires-clause-placed
fill-requires-clause-placed g c = subst (λ m. IfOk m (IsPlaced (so_far c.args.state.now))) (mintable-ok c.find_places.result c.in_ok-at.at (sym c.with_no_badge.ensures ∙ c.in_ok-at.was)) c.find_places.ensures.placed

pub fill-requires-clause-room : goal.fill-requires-clause-room
fill-requires-clause-room g c =
    let row = row-mint (so_far c.args.state.now) c.args.core c.args.thread c.args.source c.args.dest c.args.rights c.args.badge c.find_places.result c.find_places.ensures.places in
    room-any c.args.thread c.in_ok-at.at _ c.with_badge.result c.args.state.now (row-room c.args.state.now c.args.core c.args.thread (MintCap c.args.source c.args.dest c.args.rights c.args.badge) (mintable c.find_places.result) (mints c.args.rights c.args.badge) c.in_ok-at.at row (sym c.with_no_badge.ensures ∙ c.in_ok-at.was) c.requires.room)

pub returns-in_err-at : goal.returns-in_err-at
returns-in_err-at g c =
    let row = row-mint (so_far c.args.state.now) c.args.core c.args.thread c.args.source c.args.dest c.args.rights c.args.badge c.find_places.result c.find_places.ensures.places in
    let p = err_from_is_err_and c.from_residual.result c.from_residual.ensures.1 in
    rw (p.1, p.2) (row-refused c.args.state.now c.args.core c.args.thread (MintCap c.args.source c.args.dest c.args.rights c.args.badge) (mintable c.find_places.result) (mints c.args.rights c.args.badge) c.in_err-at.field-0.0 row (sym c.with_no_badge.ensures ∙ c.in_err-at.was))

pub returns : goal.returns
returns g c =
    let row = row-mint (so_far c.args.state.now) c.args.core c.args.thread c.args.source c.args.dest c.args.rights c.args.badge c.find_places.result c.find_places.ensures.places in
    row-acts c.args.state.now c.fill.new.state c.args.core c.args.thread (MintCap c.args.source c.args.dest c.args.rights c.args.badge) (mintable c.find_places.result) (mints c.args.rights c.args.badge) c.in_ok-at.at _ row (sym c.with_no_badge.ensures ∙ c.in_ok-at.was) (rw c.with_badge.ensures at c.fill.ensures)
