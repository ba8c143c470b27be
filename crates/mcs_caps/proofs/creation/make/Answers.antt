use Rattle.std.proofs.Common.{ap, sym, ◌∙◌, arith}
use Rattle.std.proofs.lemmas.Grind.{common_steps}
use Rattle.std.proofs.lemmas.Result.{err_from_is_err_and}
use Rattle.mcs_types.specs.declared.entry.Answer.TheVariants.{Done}
use Rattle.mcs_book.specs.Lookup.{slot_named}
use Rattle.mcs_cspace.specs.Spaces.{name_of, named_by}
use Rattle.mcs_state.specs.Checks.{act_of}
use Rattle.mcs_state.specs.Now.{so_far}
use Rattle.mcs_state.proofs.Doing.{refused, did, room-did}
use Rattle.mcs_caps.specs.NewObjects.{entry_making, makes}
use Rattle.mcs_caps.proofs.NewObjects.{makes_named, row-make, free-room}
use Rattle.mcs_caps.proofs.creation.make.Goals as goal

pub make_awake-requires-clause-few : goal.make_awake-requires-clause-few
make_awake-requires-clause-few g c =
    let R = so_far c.args.state.now in
    let few = free-room R c.args.kind (slot_named R c.args.thread c.args.place) (name_of c.in_ok-at.at) (sym c.find_vacant.ensures.found ∙ ap (λ m. named_by m) c.in_ok-at.was) in
    record { few = grind (arith, common_steps, few); fresh = c.requires.serials c.args.kind }

pub make_awake-requires-clause-room : goal.make_awake-requires-clause-room
make_awake-requires-clause-room g c =
    let R = so_far c.args.state.now in
    let row = row-make R c.args.core c.args.thread c.args.kind c.args.place c.requires.kind ∙ ap (λ m. act_of m (makes_named R c.args.kind c.args.core)) (sym c.find_vacant.ensures.found ∙ ap (λ m. named_by m) c.in_ok-at.was) in
    room-did c.args.state.now c.args.core c.args.thread (entry_making c.args.kind c.args.place) (makes R c.args.kind c.args.core c.in_ok-at.at) row c.requires.room

pub returns-in_err-at : goal.returns-in_err-at
returns-in_err-at g c =
    let R = so_far c.args.state.now in
    let row = row-make R c.args.core c.args.thread c.args.kind c.args.place c.requires.kind ∙ ap (λ m. act_of m (makes_named R c.args.kind c.args.core)) (sym c.find_vacant.ensures.found ∙ ap (λ m. named_by m) c.in_err-at.was) in
    let p = err_from_is_err_and c.from_residual.result c.from_residual.ensures.1 in
    rw (p.1, p.2) (refused c.args.state.now c.args.core c.args.thread (entry_making c.args.kind c.args.place) c.in_err-at.field-0.0 row)

pub returns : goal.returns
returns g c =
    let R = so_far c.args.state.now in
    let row = row-make R c.args.core c.args.thread c.args.kind c.args.place c.requires.kind ∙ ap (λ m. act_of m (makes_named R c.args.kind c.args.core)) (sym c.find_vacant.ensures.found ∙ ap (λ m. named_by m) c.in_ok-at.was) in
    did c.args.state.now c.make_awake.new.state c.args.core c.args.thread (entry_making c.args.kind c.args.place) (makes R c.args.kind c.args.core c.in_ok-at.at) Done row c.make_awake.ensures
