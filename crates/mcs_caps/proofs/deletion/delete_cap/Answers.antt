use Rattle.std.proofs.Common.{ap, sym, ◌∙◌}
use Rattle.std.proofs.lemmas.Result.{err_from_is_err_and}
use Rattle.mcs_types.specs.declared.entry.Answer.TheVariants.{Done}
use Rattle.mcs_types.specs.declared.entry.Entry.TheVariants.{DeleteCap}
use Rattle.mcs_book.specs.Lookup.{slot_named}
use Rattle.mcs_cspace.specs.Spaces.{name_of, named_by}
use Rattle.mcs_state.specs.Checks.{act_of}
use Rattle.mcs_state.specs.Now.{so_far}
use Rattle.mcs_state.proofs.Doing.{refused, did, room-did}
use Rattle.mcs_caps.specs.Deletions.{deletes}
use Rattle.mcs_caps.proofs.Deletions.{deletes_named, row-delete, spared-ok}
use Rattle.mcs_caps.proofs.deletion.delete_cap.Goals as goal

pub delete-requires-clause-spared : goal.delete-requires-clause-spared
delete-requires-clause-spared g c =
    let R = so_far c.args.state.now in
    spared-ok R (slot_named R c.args.thread c.args.place) (name_of c.in_ok-at.at) (sym c.find_deletable.ensures.found ∙ ap (λ m. named_by m) c.in_ok-at.was)

pub delete-requires-clause-room : goal.delete-requires-clause-room
delete-requires-clause-room g c =
    let R = so_far c.args.state.now in
    let row = row-delete R c.args.core c.args.thread c.args.place ∙ ap (λ m. act_of m (deletes_named R)) (sym c.find_deletable.ensures.found ∙ ap (λ m. named_by m) c.in_ok-at.was) in
    room-did c.args.state.now c.args.core c.args.thread (DeleteCap c.args.place) (deletes R c.in_ok-at.at) row c.requires.room

pub returns-in_err-at : goal.returns-in_err-at
returns-in_err-at g c =
    let R = so_far c.args.state.now in
    let row = row-delete R c.args.core c.args.thread c.args.place ∙ ap (λ m. act_of m (deletes_named R)) (sym c.find_deletable.ensures.found ∙ ap (λ m. named_by m) c.in_err-at.was) in
    let p = err_from_is_err_and c.from_residual.result c.from_residual.ensures.1 in
    rw (p.1, p.2) (refused c.args.state.now c.args.core c.args.thread (DeleteCap c.args.place) c.in_err-at.field-0.0 row)

pub returns : goal.returns
returns g c =
    let R = so_far c.args.state.now in
    let row = row-delete R c.args.core c.args.thread c.args.place ∙ ap (λ m. act_of m (deletes_named R)) (sym c.find_deletable.ensures.found ∙ ap (λ m. named_by m) c.in_ok-at.was) in
    did c.args.state.now c.delete.new.state c.args.core c.args.thread (DeleteCap c.args.place) (deletes R c.in_ok-at.at) Done row c.delete.ensures
