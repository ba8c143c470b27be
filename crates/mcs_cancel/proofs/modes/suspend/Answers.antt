use Rattle.std.proofs.Common.{ap, sym, ◌∙◌}
use Rattle.std.proofs.lemmas.Result.{err_from_is_err_and}
use Rattle.mcs_types.specs.declared.entry.Answer.TheVariants.{Done}
use Rattle.mcs_types.specs.declared.entry.Entry.TheVariants.{Suspend}
use Rattle.mcs_state.specs.Checks.{act_of}
use Rattle.mcs_state.specs.Now.{so_far}
use Rattle.mcs_state.proofs.Doing.{refused, did, room-did}
use Rattle.mcs_cancel.proofs.Turning.{suspends, row-suspend}
use Rattle.mcs_cancel.proofs.modes.suspend.Goals as goal

pub set_mode-requires-clause-room : goal.set_mode-requires-clause-room
set_mode-requires-clause-room g c =
    let row = row-suspend (so_far c.args.state.now) c.args.core c.args.thread c.args.address ∙ ap (λ m. act_of m suspends) (sym c.find_thread.ensures.found ∙ c.in_ok-named.was) in
    room-did c.args.state.now c.args.core c.args.thread (Suspend c.args.address) (suspends c.in_ok-named.named) row c.requires.room

pub returns-in_err-named : goal.returns-in_err-named
returns-in_err-named g c =
    let row = row-suspend (so_far c.args.state.now) c.args.core c.args.thread c.args.address ∙ ap (λ m. act_of m suspends) (sym c.find_thread.ensures.found ∙ c.in_err-named.was) in
    let p = err_from_is_err_and c.from_residual.result c.from_residual.ensures.1 in
    rw (p.1, p.2) (refused c.args.state.now c.args.core c.args.thread (Suspend c.args.address) c.in_err-named.field-0.0 row)

pub returns : goal.returns
returns g c =
    let row = row-suspend (so_far c.args.state.now) c.args.core c.args.thread c.args.address ∙ ap (λ m. act_of m suspends) (sym c.find_thread.ensures.found ∙ c.in_ok-named.was) in
    did c.args.state.now c.set_mode.new.state c.args.core c.args.thread (Suspend c.args.address) (suspends c.in_ok-named.named) Done row c.set_mode.ensures
