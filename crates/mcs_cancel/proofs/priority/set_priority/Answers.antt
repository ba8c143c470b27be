use Rattle.std.proofs.Common.{ap, sym, ◌∙◌}
use Rattle.std.proofs.lemmas.Result.{err_from_is_err_and}
use Rattle.mcs_types.specs.declared.entry.Answer.TheVariants.{Done}
use Rattle.mcs_types.specs.declared.entry.Entry.TheVariants.{SetPriority}
use Rattle.mcs_state.specs.Checks.{act_of}
use Rattle.mcs_state.specs.Now.{so_far}
use Rattle.mcs_state.proofs.Doing.{refused, did, room-did}
use Rattle.mcs_cancel.proofs.Priorities.{sets, row-set}
use Rattle.mcs_cancel.proofs.priority.set_priority.Goals as goal

pub change_awake-requires-clause-room : goal.change_awake-requires-clause-room
change_awake-requires-clause-room g c =
    let row = row-set (so_far c.args.state.now) c.args.core c.args.thread c.args.holder c.args.authority c.args.priority ∙ ap (λ m. act_of m (sets c.args.priority)) (sym c.thread_to_set.ensures.found ∙ c.in_ok-holder.was) in
    room-did c.args.state.now c.args.core c.args.thread (SetPriority c.args.holder c.args.authority c.args.priority) (sets c.args.priority c.in_ok-holder.holder) row c.requires.room

pub returns-in_err-holder : goal.returns-in_err-holder
returns-in_err-holder g c =
    let row = row-set (so_far c.args.state.now) c.args.core c.args.thread c.args.holder c.args.authority c.args.priority ∙ ap (λ m. act_of m (sets c.args.priority)) (sym c.thread_to_set.ensures.found ∙ c.in_err-holder.was) in
    let p = err_from_is_err_and c.from_residual.result c.from_residual.ensures.1 in
    rw (p.1, p.2) (refused c.args.state.now c.args.core c.args.thread (SetPriority c.args.holder c.args.authority c.args.priority) c.in_err-holder.field-0.0 row)

pub returns : goal.returns
returns g c =
    let row = row-set (so_far c.args.state.now) c.args.core c.args.thread c.args.holder c.args.authority c.args.priority ∙ ap (λ m. act_of m (sets c.args.priority)) (sym c.thread_to_set.ensures.found ∙ c.in_ok-holder.was) in
    did c.args.state.now c.change_awake.new.state c.args.core c.args.thread (SetPriority c.args.holder c.args.authority c.args.priority) (sets c.args.priority c.in_ok-holder.holder) Done row c.change_awake.ensures
