use Rattle.std.proofs.Common.{sym, subst}
use Rattle.mcs_types.specs.declared.id.Kind.TheVariants as kind
use Rattle.mcs_types.specs.declared.record.Mode.TheVariants.{Inactive}
use Rattle.mcs_book.specs.Cancelling.{cancel}
use Rattle.mcs_book.specs.Pieces.{◌then◌}
use Rattle.mcs_book.specs.Sound.{IsIdle}
use Rattle.mcs_state.specs.Now.{so_far}
use Rattle.mcs_state.proofs.Doing.{so_far-made, makes-then, room-first, room-next}
use Rattle.mcs_cancel.specs.Releasing.{releases, unties, lets_go}
use Rattle.mcs_cancel.proofs.Leaving.{room-one, room-other, both-made}
use Rattle.mcs_cancel.proofs.Releasing.{thread-is, cancelled-idle, thread-released}
use Rattle.mcs_cancel.proofs.destruction.release_thread.Goals as goal

pub cancel-requires-clause-room : goal.cancel-requires-clause-room
cancel-requires-clause-room g c =
    let o = c.args.thread in
    room-first (cancel o Inactive) (unties o) c.args.state.now (room-one (releases o kind.Thread) (cancel o Inactive then unties o) (lets_go o) (thread-is o) c.args.state.now c.requires.room)

pub untie-requires : goal.untie-requires
untie-requires g c =
    let o = c.args.thread in
    record { room = room-next (cancel o Inactive) (unties o) c.args.state.now c.cancel.new.state c.cancel.ensures (room-one (releases o kind.Thread) (cancel o Inactive then unties o) (lets_go o) (thread-is o) c.args.state.now c.requires.room) }

pub let_go-requires : goal.let_go-requires
let_go-requires g c =
    let o = c.args.thread in
    let both = makes-then (cancel o Inactive) (unties o) c.args.state.now c.cancel.new.state c.untie.new.state c.cancel.ensures c.untie.ensures.made in
    record { room = room-other (releases o kind.Thread) (cancel o Inactive then unties o) (lets_go o) (thread-is o) c.args.state.now c.untie.new.state both c.requires.room }

pub returns-clause-made : goal.returns-clause-made
returns-clause-made g c =
    let o = c.args.thread in
    let both = makes-then (cancel o Inactive) (unties o) c.args.state.now c.cancel.new.state c.untie.new.state c.cancel.ensures c.untie.ensures.made in
    both-made (releases o kind.Thread) (cancel o Inactive then unties o) (lets_go o) (thread-is o) c.args.state.now c.untie.new.state c.let_go.new.state both c.let_go.ensures.made

pub returns-clause-released : goal.returns-clause-released
returns-clause-released g c =
    let o = c.args.thread in
    let R = so_far c.args.state.now in
    let idle = subst (λ S. IsIdle S o) (sym (so_far-made (cancel o Inactive) c.args.state.now c.cancel.new.state c.cancel.ensures)) (cancelled-idle R o Inactive c.is_sound.ensures.sound c.requires.there) in
    let left = thread-released (so_far c.cancel.new.state) (so_far c.untie.new.state) (so_far c.let_go.new.state) o idle
    (so_far-made (unties o) c.cancel.new.state c.untie.new.state c.untie.ensures.made)
    (so_far-made (lets_go o) c.untie.new.state c.let_go.new.state c.let_go.ensures.made)
    c.untie.ensures.unbound in
    (left.0, c.let_go.ensures.none, left.1)
