use Rattle.std.proofs.Common.{ap, sym, ◌∙◌, subst, refl}
use Rattle.std.proofs.lemmas.Result.{err_from_is_err_and}
use Rattle.mcs_types.specs.declared.entry.Answer.TheVariants.{Done}
use Rattle.mcs_types.specs.declared.entry.Entry.TheVariants.{CancelBadged}
use Rattle.mcs_book.specs.Pieces.{Piece}
use Rattle.mcs_state.specs.Checks.{act_of}
use Rattle.mcs_state.specs.Doing.{HasRoomFor}
use Rattle.mcs_state.specs.Now.{so_far, adds_all}
use Rattle.mcs_state.proofs.Doing.{refused, acted, room-wakes, room-acts}
use Rattle.mcs_cancel.specs.Badging.{cancels_badged}
use Rattle.mcs_cancel.proofs.Badging.{row-badged, woken-badged}
use Rattle.mcs_cancel.proofs.badged.cancel_badged.Goals as goal

pub wake-requires-clause-room : goal.wake-requires-clause-room
wake-requires-clause-room g c =
    let act = cancels_badged (so_far c.args.state.now) in
    let row = row-badged (so_far c.args.state.now) c.args.core c.args.thread c.args.address ∙ ap (λ m. act_of m act) (sym c.badged_endpoint.ensures ∙ c.in_ok-cap.was) in
    room-wakes c.args.state.now c.args.core c.args.thread (CancelBadged c.args.address) (act c.in_ok-cap.cap) row c.requires.room

pub restart_badged-requires : goal.restart_badged-requires
restart_badged-requires g c =
    let act = cancels_badged (so_far c.args.state.now) in
    let row = row-badged (so_far c.args.state.now) c.args.core c.args.thread c.args.address ∙ ap (λ m. act_of m act) (sym c.badged_endpoint.ensures ∙ c.in_ok-cap.was) in
    let room = room-acts c.args.state.now c.wake.new.state c.args.core c.args.thread (CancelBadged c.args.address) (act c.in_ok-cap.cap) row c.wake.ensures c.requires.room in
    record { room = subst (λ (p : Piece). HasRoomFor p c.wake.new.state) (sym (woken-badged c.args.state.now c.wake.new.state c.args.thread c.in_ok-cap.cap c.wake.ensures)) room }

pub returns-in_err-cap : goal.returns-in_err-cap
returns-in_err-cap g c =
    let act = cancels_badged (so_far c.args.state.now) in
    let row = row-badged (so_far c.args.state.now) c.args.core c.args.thread c.args.address ∙ ap (λ m. act_of m act) (sym c.badged_endpoint.ensures ∙ c.in_err-cap.was) in
    let p = err_from_is_err_and c.from_residual.result c.from_residual.ensures.1 in
    rw (p.1, p.2) (refused c.args.state.now c.args.core c.args.thread (CancelBadged c.args.address) c.in_err-cap.field-0.0 row)

pub returns : goal.returns
returns g c =
    let act = cancels_badged (so_far c.args.state.now) in
    let row = row-badged (so_far c.args.state.now) c.args.core c.args.thread c.args.address ∙ ap (λ m. act_of m act) (sym c.badged_endpoint.ensures ∙ c.in_ok-cap.was) in
    let same = woken-badged c.args.state.now c.wake.new.state c.args.thread c.in_ok-cap.cap c.wake.ensures in
    acted c.args.state.now c.wake.new.state c.restart_badged.new.state c.args.core c.args.thread (CancelBadged c.args.address) (act c.in_ok-cap.cap) Done row c.wake.ensures
    (record { records = c.restart_badged.ensures ∙ ap (λ (p : Piece). adds_all (p (so_far c.wake.new.state)) c.wake.new.state) same; answer = refl })
