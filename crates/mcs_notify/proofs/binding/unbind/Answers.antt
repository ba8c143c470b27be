use Rattle.std.proofs.Common.{ap, sym, ◌∙◌}
use Rattle.std.proofs.lemmas.Result.{err_from_is_err_and}
use Rattle.mcs_types.specs.declared.entry.Answer.TheVariants.{Done}
use Rattle.mcs_types.specs.declared.entry.Entry.TheVariants.{UnbindNtfn}
use Rattle.mcs_state.specs.Changing.{changes}
use Rattle.mcs_state.specs.Checks.{act_of}
use Rattle.mcs_state.specs.Now.{so_far}
use Rattle.mcs_state.proofs.Doing.{refused, did, room-did}
use Rattle.mcs_notify.proofs.Tying.{row-unbind, unbind-allowed}
use Rattle.mcs_notify.proofs.binding.unbind.Goals as goal

pub change_awake-requires-clause-allowed : goal.change_awake-requires-clause-allowed
change_awake-requires-clause-allowed g c = unbind-allowed (so_far c.args.state.now) c.args.thread c.args.holder c.in_ok-change.change (sym c.tie_to_end.ensures ∙ c.in_ok-change.was)

pub change_awake-requires-clause-room : goal.change_awake-requires-clause-room
change_awake-requires-clause-room g c =
    let row = row-unbind (so_far c.args.state.now) c.args.core c.args.thread c.args.holder ∙ ap (λ m. act_of m changes) (sym c.tie_to_end.ensures ∙ c.in_ok-change.was) in
    room-did c.args.state.now c.args.core c.args.thread (UnbindNtfn c.args.holder) (changes c.in_ok-change.change) row c.requires.room

pub returns-in_err-change : goal.returns-in_err-change
returns-in_err-change g c =
    let row = row-unbind (so_far c.args.state.now) c.args.core c.args.thread c.args.holder ∙ ap (λ m. act_of m changes) (sym c.tie_to_end.ensures ∙ c.in_err-change.was) in
    let p = err_from_is_err_and c.from_residual.result c.from_residual.ensures.1 in
    rw (p.1, p.2) (refused c.args.state.now c.args.core c.args.thread (UnbindNtfn c.args.holder) c.in_err-change.field-0.0 row)

pub returns : goal.returns
returns g c =
    let row = row-unbind (so_far c.args.state.now) c.args.core c.args.thread c.args.holder ∙ ap (λ m. act_of m changes) (sym c.tie_to_end.ensures ∙ c.in_ok-change.was) in
    did c.args.state.now c.change_awake.new.state c.args.core c.args.thread (UnbindNtfn c.args.holder) (changes c.in_ok-change.change) Done row c.change_awake.ensures
