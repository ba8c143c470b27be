use Rattle.std.proofs.Common.{refl}
use Rattle.mcs_book.specs.Table.{wakes}
use Rattle.mcs_book.specs.Threads.{mode_of}
use Rattle.mcs_state.specs.Now.{so_far}
use Rattle.mcs_state.proofs.Doing.{after, room-before, room-then}
use Rattle.mcs_ipc.specs.Holding.{unbinds}
use Rattle.mcs_ipc.proofs.contexts.unbind_awake.Goals as goal

pub wake-requires-clause-room : goal.wake-requires-clause-room
wake-requires-clause-room g c = room-before (wakes (mode_of (so_far c.args.state.now) c.args.thread) c.args.thread) (unbinds c.args.context) c.args.state.now c.requires.room

pub unbind-requires : goal.unbind-requires
unbind-requires g c = record { room = room-then (wakes (mode_of (so_far c.args.state.now) c.args.thread) c.args.thread) (unbinds c.args.context) c.args.state.now c.wake.new.state c.wake.ensures c.requires.room }

pub returns : goal.returns
returns g c = after (wakes (mode_of (so_far c.args.state.now) c.args.thread) c.args.thread) (unbinds c.args.context) c.args.state.now c.wake.new.state c.unbind.new.state _ c.wake.ensures (record { records = c.unbind.ensures.made; answer = refl })
