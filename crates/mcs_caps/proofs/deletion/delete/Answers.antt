use Rattle.std.proofs.Common.{sym, ◌∙◌, subst, refl}
use Rattle.mcs_types.specs.declared.entry.Answer.TheVariants.{Done}
use Rattle.mcs_book.specs.Pieces.{Act}
use Rattle.mcs_book.specs.Table.{wakes}
use Rattle.mcs_book.specs.Threads.{mode_of}
use Rattle.mcs_state.specs.Doing.{Acts, FitsAct}
use Rattle.mcs_state.specs.Now.{so_far}
use Rattle.mcs_state.proofs.Doing.{after, room-before, room-then}
use Rattle.mcs_caps.specs.Deletions.{deletes}
use Rattle.mcs_caps.proofs.Deletions.{deletes-none, deletes-some}
use Rattle.mcs_caps.proofs.deletion.delete.Goals as goal

pub wake-requires-clause-room : goal.wake-requires-clause-room
wake-requires-clause-room g c =
    let R = so_far c.args.state.now in
    room-before (wakes (mode_of R c.args.thread) c.args.thread) (deletes R c.args.at) c.args.state.now c.requires.room

pub take_out-requires-clause-room : goal.take_out-requires-clause-room
take_out-requires-clause-room g c =
    let R = so_far c.args.state.now in
    let room = room-then (wakes (mode_of R c.args.thread) c.args.thread) (deletes R c.args.at) c.args.state.now c.wake.new.state c.wake.ensures c.requires.room in
    subst (λ (act : Act). FitsAct act c.wake.new.state) (deletes-some R c.args.at c.in-Some.cap (sym c.slot-held.ensures ∙ c.in-Some.is)) room

pub returns-in_default : goal.returns-in_default
returns-in_default g c =
    let R = so_far c.args.state.now in
    let is = deletes-none R c.args.at (sym c.slot-held.ensures ∙ c.in_default.is) in
    after (wakes (mode_of R c.args.thread) c.args.thread) (deletes R c.args.at) c.args.state.now c.wake.new.state c.wake.new.state _ c.wake.ensures
    (subst (λ (act : Act). Acts act c.wake.new.state Done c.wake.new.state) (sym is) (record { records = refl; answer = refl }))

pub returns-in-Some : goal.returns-in-Some
returns-in-Some g c =
    let R = so_far c.args.state.now in
    let is = deletes-some R c.args.at c.in-Some.cap (sym c.slot-held.ensures ∙ c.in-Some.is) in
    after (wakes (mode_of R c.args.thread) c.args.thread) (deletes R c.args.at) c.args.state.now c.wake.new.state c.take_out.new.state _ c.wake.ensures
    (subst (λ (act : Act). Acts act c.wake.new.state Done c.take_out.new.state) (sym is) (record { records = c.take_out.ensures; answer = refl }))
