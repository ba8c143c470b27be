use Rattle.std.proofs.Common.{ap, sym, ◌∙◌, subst}
use Rattle.std.proofs.lemmas.Result.{err_from_is_err_and}
use Rattle.mcs_types.specs.declared.entry.Answer.TheVariants.{Done}
use Rattle.mcs_types.specs.declared.entry.Entry.TheVariants.{Resume}
use Rattle.mcs_state.specs.Checks.{act_of}
use Rattle.mcs_state.specs.Doing.{ActsAwake, FitsAwake}
use Rattle.mcs_state.specs.Now.{so_far}
use Rattle.mcs_state.proofs.Doing.{refused, did, room-did}
use Rattle.mcs_cancel.specs.Turning.{sets_mode, mode_resumed}
use Rattle.mcs_cancel.proofs.Turning.{resumes, row-resume}
use Rattle.mcs_cancel.proofs.modes.resume.Goals as goal

pub set_mode-requires-clause-room : goal.set_mode-requires-clause-room
set_mode-requires-clause-room g c =
    let R = so_far c.args.state.now in
    let row = row-resume R c.args.core c.args.thread c.args.address ∙ ap (λ m. act_of m (resumes R)) (sym c.find_thread.ensures.found ∙ c.in_ok-named.was) in
    let mode = c.mode_resumed-mode.ensures ∙ ap mode_resumed c.status.ensures in
    subst (λ m. FitsAwake c.args.thread (sets_mode c.in_ok-named.named m) c.args.state.now) (sym mode) (room-did c.args.state.now c.args.core c.args.thread (Resume c.args.address) (resumes R c.in_ok-named.named) row c.requires.room)

pub returns-in_err-named : goal.returns-in_err-named
returns-in_err-named g c =
    let R = so_far c.args.state.now in
    let row = row-resume R c.args.core c.args.thread c.args.address ∙ ap (λ m. act_of m (resumes R)) (sym c.find_thread.ensures.found ∙ c.in_err-named.was) in
    let p = err_from_is_err_and c.from_residual.result c.from_residual.ensures.1 in
    rw (p.1, p.2) (refused c.args.state.now c.args.core c.args.thread (Resume c.args.address) c.in_err-named.field-0.0 row)

pub returns : goal.returns
returns g c =
    let R = so_far c.args.state.now in
    let row = row-resume R c.args.core c.args.thread c.args.address ∙ ap (λ m. act_of m (resumes R)) (sym c.find_thread.ensures.found ∙ c.in_ok-named.was) in
    let mode = c.mode_resumed-mode.ensures ∙ ap mode_resumed c.status.ensures in
    did c.args.state.now c.set_mode.new.state c.args.core c.args.thread (Resume c.args.address) (resumes R c.in_ok-named.named) Done row (subst (λ m. ActsAwake c.args.thread (sets_mode c.in_ok-named.named m) c.args.state.now Done c.set_mode.new.state) mode c.set_mode.ensures)
