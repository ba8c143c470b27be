use Rattle.std.proofs.Common.{ap, sym, ◌∙◌, subst, refl}
use Rattle.mcs_types.specs.declared.id.ObjId.{ObjId}
use Rattle.mcs_book.specs.Objects.{next_id}
use Rattle.mcs_book.specs.Table.{wakes}
use Rattle.mcs_book.specs.Threads.{mode_of}
use Rattle.mcs_state.specs.Doing.{Makes, HasRoomFor}
use Rattle.mcs_state.specs.Now.{so_far}
use Rattle.mcs_state.proofs.Doing.{so_far-made, after, room-before, room-then}
use Rattle.mcs_caps.specs.NewObjects.{makes_at, makes}
use Rattle.mcs_caps.proofs.NewObjects.{woken-next}
use Rattle.mcs_caps.proofs.creation.make_awake.Goals as goal

pub wake-requires-clause-room : goal.wake-requires-clause-room
wake-requires-clause-room g c =
    let R = so_far c.args.state.now in
    room-before (wakes (mode_of R c.args.thread) c.args.thread) (makes R c.args.kind c.args.core c.args.at) c.args.state.now c.requires.room

pub make_at-requires-clause-room : goal.make_at-requires-clause-room
make_at-requires-clause-room g c =
    let R = so_far c.args.state.now in
    let wake = wakes (mode_of R c.args.thread) c.args.thread in
    let next = ap (λ S. next_id S c.args.kind) (so_far-made wake c.args.state.now c.wake.new.state c.wake.ensures) ∙ woken-next R c.args.thread (mode_of R c.args.thread) c.args.kind in
    let room = room-then wake (makes R c.args.kind c.args.core c.args.at) c.args.state.now c.wake.new.state c.wake.ensures c.requires.room in
    subst (λ (o : ObjId). HasRoomFor (makes_at o c.args.core c.args.at) c.wake.new.state) (sym next) room

pub returns : goal.returns
returns g c =
    let R = so_far c.args.state.now in
    let wake = wakes (mode_of R c.args.thread) c.args.thread in
    let next = ap (λ S. next_id S c.args.kind) (so_far-made wake c.args.state.now c.wake.new.state c.wake.ensures) ∙ woken-next R c.args.thread (mode_of R c.args.thread) c.args.kind in
    let made = subst (λ (o : ObjId). Makes (makes_at o c.args.core c.args.at) c.wake.new.state c.make_at.new.state) next c.make_at.ensures in
    after wake (makes R c.args.kind c.args.core c.args.at) c.args.state.now c.wake.new.state c.make_at.new.state _ c.wake.ensures (record { records = made; answer = refl })
