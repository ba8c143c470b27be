use Rattle.std.proofs.Common.{sym, subst, refl}
use Rattle.mcs_types.specs.declared.id.Kind.TheVariants as kind
use Rattle.mcs_book.specs.Sound.{IsThere}
use Rattle.mcs_book.specs.Table.{wakes}
use Rattle.mcs_book.specs.Threads.{mode_of}
use Rattle.mcs_state.specs.Now.{so_far}
use Rattle.mcs_state.proofs.Doing.{so_far-made, after, room-before, room-then}
use Rattle.mcs_cancel.specs.Turning.{sets_mode}
use Rattle.mcs_state.proofs.Woken.{woken-there}
use Rattle.mcs_cancel.proofs.modes.set_mode.Goals as goal

pub wake-requires-clause-room : goal.wake-requires-clause-room
wake-requires-clause-room g c = room-before (wakes (mode_of (so_far c.args.state.now) c.args.thread) c.args.thread) (sets_mode c.args.named c.args.mode) c.args.state.now c.requires.room

pub cancel_any-requires-clause-there : goal.cancel_any-requires-clause-there
cancel_any-requires-clause-there g c =
    let R = so_far c.args.state.now in
    let so = so_far-made (wakes (mode_of R c.args.thread) c.args.thread) c.args.state.now c.wake.new.state c.wake.ensures in
    subst (λ S. IsThere S kind.Thread c.args.named) (sym so) (woken-there R c.args.thread (mode_of R c.args.thread) kind.Thread c.args.named c.requires.there)

pub cancel_any-requires-clause-room : goal.cancel_any-requires-clause-room
cancel_any-requires-clause-room g c = room-then (wakes (mode_of (so_far c.args.state.now) c.args.thread) c.args.thread) (sets_mode c.args.named c.args.mode) c.args.state.now c.wake.new.state c.wake.ensures c.requires.room

pub returns : goal.returns
returns g c = after (wakes (mode_of (so_far c.args.state.now) c.args.thread) c.args.thread) (sets_mode c.args.named c.args.mode) c.args.state.now c.wake.new.state c.cancel_any.new.state _ c.wake.ensures (record { records = c.cancel_any.ensures; answer = refl })
