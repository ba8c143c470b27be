use Rattle.std.proofs.Common.{sym, subst, refl, arith}
use Rattle.mcs_book.specs.Logs.{Log}
use Rattle.mcs_book.specs.Threads.{mode_of}
use Rattle.mcs_book.specs.Table.{wakes}
use Rattle.mcs_book.specs.Sound.{Allowed}
use Rattle.mcs_state.specs.Changing.{record_of, changes}
use Rattle.mcs_state.specs.Now.{so_far}
use Rattle.mcs_state.proofs.Doing.{so_far-made, after, room-before, room-then}
use Rattle.mcs_state.proofs.Woken.{woken-change}
use Rattle.mcs_state.proofs.changes.change_awake.Goals as goal

pub wake-requires-clause-room : goal.wake-requires-clause-room
wake-requires-clause-room g c = room-before (wakes (mode_of (so_far c.args.state.now) c.args.thread) c.args.thread) (changes c.args.change) c.args.state.now c.requires.room

pub make_change-requires-clause-allowed : goal.make_change-requires-clause-allowed
make_change-requires-clause-allowed g c =
    let R : Log = so_far c.args.state.now in
    let so = so_far-made (wakes (mode_of R c.args.thread) c.args.thread) c.args.state.now c.wake.new.state c.wake.ensures in
    subst (λ S. Allowed S (record_of c.args.change)) (sym so) (woken-change R c.args.thread (mode_of R c.args.thread) c.args.change c.requires.allowed)

pub make_change-requires-clause-room : goal.make_change-requires-clause-room
make_change-requires-clause-room g c =
    let room = room-then (wakes (mode_of (so_far c.args.state.now) c.args.thread) c.args.thread) (changes c.args.change) c.args.state.now c.wake.new.state c.wake.ensures c.requires.room in
    omega (arith, room)

pub returns : goal.returns
returns g c = after (wakes (mode_of (so_far c.args.state.now) c.args.thread) c.args.thread) (changes c.args.change) c.args.state.now c.wake.new.state c.make_change.new.state _ c.wake.ensures (record { records = c.make_change.ensures; answer = refl })
