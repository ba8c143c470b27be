use Rattle.std.proofs.Common.{ap, sym, ◌∙◌}
use Rattle.std.proofs.lemmas.Result.{err_from_is_err_and}
use Rattle.mcs_types.specs.declared.entry.Answer.TheVariants.{Done}
use Rattle.mcs_types.specs.declared.entry.Entry.TheVariants.{UnbindCtx}
use Rattle.mcs_state.specs.Checks.{act_of}
use Rattle.mcs_state.specs.Now.{so_far}
use Rattle.mcs_state.proofs.Doing.{refused, did, room-did}
use Rattle.mcs_ipc.specs.Holding.{unbinds}
use Rattle.mcs_ipc.proofs.Binding.{row-unbind}
use Rattle.mcs_ipc.proofs.contexts.unbind_context.Goals as goal

pub unbind_awake-requires-clause-room : goal.unbind_awake-requires-clause-room
unbind_awake-requires-clause-room g c =
    let row = row-unbind (so_far c.args.state.now) c.args.core c.args.thread c.args.context ∙ ap (λ m. act_of m unbinds) (sym c.find_bound.ensures ∙ c.in_ok-context.was) in
    room-did c.args.state.now c.args.core c.args.thread (UnbindCtx c.args.context) (unbinds c.in_ok-context.context) row c.requires.room

pub returns-in_err-context : goal.returns-in_err-context
returns-in_err-context g c =
    let row = row-unbind (so_far c.args.state.now) c.args.core c.args.thread c.args.context ∙ ap (λ m. act_of m unbinds) (sym c.find_bound.ensures ∙ c.in_err-context.was) in
    let p = err_from_is_err_and c.from_residual.result c.from_residual.ensures.1 in
    rw (p.1, p.2) (refused c.args.state.now c.args.core c.args.thread (UnbindCtx c.args.context) c.in_err-context.field-0.0 row)

pub returns : goal.returns
returns g c =
    let row = row-unbind (so_far c.args.state.now) c.args.core c.args.thread c.args.context ∙ ap (λ m. act_of m unbinds) (sym c.find_bound.ensures ∙ c.in_ok-context.was) in
    did c.args.state.now c.unbind_awake.new.state c.args.core c.args.thread (UnbindCtx c.args.context) (unbinds c.in_ok-context.context) Done row c.unbind_awake.ensures
