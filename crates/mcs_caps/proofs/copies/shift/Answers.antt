use Rattle.std.proofs.Common.{sym, ◌∙◌, ap, subst, refl, arith, Some, None, ◌∷◌}
use Rattle.mcs_types.specs.declared.record.Rec.TheVariants as rec
use Rattle.mcs_book.specs.Logs.{Log}
use Rattle.mcs_book.specs.Threads.{mode_of}
use Rattle.mcs_book.specs.Table.{wakes}
use Rattle.mcs_book.specs.Sound.{Allowed}
use Rattle.mcs_state.specs.Now.{Now, so_far, adds}
use Rattle.mcs_state.proofs.Doing.{so_far-made, after, room-before, room-then}
use Rattle.mcs_caps.specs.Rows.{moves_act}
use Rattle.mcs_caps.proofs.Places.{may-fill, may-empty}
use Rattle.mcs_caps.proofs.copies.shift.Goals as goal

pub wake-requires-clause-room : goal.wake-requires-clause-room
wake-requires-clause-room g c = room-before (wakes (mode_of (so_far c.args.state.now) c.args.thread) c.args.thread) (moves_act c.args.at.now) c.args.state.now c.requires.room

pub fills-requires-clause-allowed : goal.fills-requires-clause-allowed
fills-requires-clause-allowed g c =
    let R : Log = so_far c.args.state.now in
    let so = so_far-made (wakes (mode_of R c.args.thread) c.args.thread) c.args.state.now c.wake.new.state c.wake.ensures in
    subst (λ S. Allowed S (rec.Slot c.args.at.now.dest.cnode c.args.at.now.dest.index (Some c.args.at.now.cap))) (sym so) (may-fill R c.args.thread (mode_of R c.args.thread) c.args.at.now c.args.at.now.cap c.is_sound.ensures.sound c.requires.placed refl)

pub fills-requires-clause-room : goal.fills-requires-clause-room
fills-requires-clause-room g c =
    let room = room-then (wakes (mode_of (so_far c.args.state.now) c.args.thread) c.args.thread) (moves_act c.args.at.now) c.args.state.now c.wake.new.state c.wake.ensures c.requires.room in
    omega (arith, room)

pub fills-requires-2-clause-allowed : goal.fills-requires-2-clause-allowed
fills-requires-2-clause-allowed g c =
    let R : Log = so_far c.args.state.now in
    let so = so_far-made (wakes (mode_of R c.args.thread) c.args.thread) c.args.state.now c.wake.new.state c.wake.ensures in
    rw c.fills.ensures (subst (λ S. Allowed (rec.Slot c.args.at.now.dest.cnode c.args.at.now.dest.index (Some c.args.at.now.cap) ∷ S) (rec.Slot c.args.at.now.source.cnode c.args.at.now.source.index None)) (sym so) (may-empty R c.args.thread (mode_of R c.args.thread) c.args.at.now c.requires.placed))

pub fills-requires-2-clause-room : goal.fills-requires-2-clause-room
fills-requires-2-clause-room g c =
    let room = room-then (wakes (mode_of (so_far c.args.state.now) c.args.thread) c.args.thread) (moves_act c.args.at.now) c.args.state.now c.wake.new.state c.wake.ensures c.requires.room in
    rw c.fills.ensures (omega (arith, room))

pub returns : goal.returns
returns g c =
    let made = c.fills-2.ensures ∙ ap (λ (n : Now). adds (rec.Slot c.args.at.now.source.cnode c.args.at.now.source.index None) n) c.fills.ensures in
    after (wakes (mode_of (so_far c.args.state.now) c.args.thread) c.args.thread) (moves_act c.args.at.now) c.args.state.now c.wake.new.state c.fills-2.new.self _ c.wake.ensures (record { records = made; answer = refl })
