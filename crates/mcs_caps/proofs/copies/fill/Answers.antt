use Rattle.std.proofs.Common.{sym, subst, refl, arith, Some}
use Rattle.mcs_types.specs.declared.record.Rec.TheVariants as rec
use Rattle.mcs_book.specs.Logs.{Log}
use Rattle.mcs_book.specs.Threads.{mode_of}
use Rattle.mcs_book.specs.Table.{wakes}
use Rattle.mcs_book.specs.Sound.{Allowed}
use Rattle.mcs_state.specs.Now.{so_far}
use Rattle.mcs_state.proofs.Doing.{so_far-made, after, room-before, room-then}
use Rattle.mcs_caps.specs.Rows.{fills_act}
use Rattle.mcs_caps.proofs.Places.{may-fill}
use Rattle.mcs_caps.proofs.copies.fill.Goals as goal

pub wake-requires-clause-room : goal.wake-requires-clause-room
wake-requires-clause-room g c = room-before (wakes (mode_of (so_far c.args.state.now) c.args.thread) c.args.thread) (fills_act c.args.at.now c.args.cap) c.args.state.now c.requires.room

pub fills-requires-clause-allowed : goal.fills-requires-clause-allowed
fills-requires-clause-allowed g c =
    let R : Log = so_far c.args.state.now in
    let so = so_far-made (wakes (mode_of R c.args.thread) c.args.thread) c.args.state.now c.wake.new.state c.wake.ensures in
    subst (λ S. Allowed S (rec.Slot c.args.at.now.dest.cnode c.args.at.now.dest.index (Some c.args.cap))) (sym so) (may-fill R c.args.thread (mode_of R c.args.thread) c.args.at.now c.args.cap c.is_sound.ensures.sound c.requires.placed c.requires.object)

pub fills-requires-clause-room : goal.fills-requires-clause-room
fills-requires-clause-room g c =
    let room = room-then (wakes (mode_of (so_far c.args.state.now) c.args.thread) c.args.thread) (fills_act c.args.at.now c.args.cap) c.args.state.now c.wake.new.state c.wake.ensures c.requires.room in
    omega (arith, room)

pub returns : goal.returns
returns g c = after (wakes (mode_of (so_far c.args.state.now) c.args.thread) c.args.thread) (fills_act c.args.at.now c.args.cap) c.args.state.now c.wake.new.state c.fills.new.self _ c.wake.ensures (record { records = c.fills.ensures; answer = refl })
