use Rattle.mcs_types.specs.declared.id.Kind.TheVariants as kind
use Rattle.mcs_types.specs.declared.record.Queue.TheVariants.{Waiters}
use Rattle.mcs_book.specs.Pieces.{◌then◌}
use Rattle.mcs_state.specs.Now.{so_far}
use Rattle.mcs_state.proofs.Doing.{so_far-made, makes-then, room-first, room-next}
use Rattle.mcs_cancel.specs.Releasing.{releases, frees, clears}
use Rattle.mcs_cancel.proofs.Leaving.{room-one, room-other, both-made}
use Rattle.mcs_cancel.proofs.Releasing.{empties, notification-is, still-nobody, still-unwatched}
use Rattle.mcs_cancel.proofs.destruction.release_notification.Goals as goal

pub restart_all-requires : goal.restart_all-requires
restart_all-requires g c =
    let n = c.args.notification in
    record { room = room-first (empties (Waiters n)) (frees n) c.args.state.now (room-one (releases n kind.Notification) (empties (Waiters n) then frees n) (clears n) (notification-is n) c.args.state.now c.requires.room) }

pub free-requires : goal.free-requires
free-requires g c =
    let n = c.args.notification in
    record { room = room-next (empties (Waiters n)) (frees n) c.args.state.now c.restart_all.new.state c.restart_all.ensures.made (room-one (releases n kind.Notification) (empties (Waiters n) then frees n) (clears n) (notification-is n) c.args.state.now c.requires.room) }

pub clear-requires : goal.clear-requires
clear-requires g c =
    let n = c.args.notification in
    let both = makes-then (empties (Waiters n)) (frees n) c.args.state.now c.restart_all.new.state c.free.new.state c.restart_all.ensures.made c.free.ensures.made in
    record { room = room-other (releases n kind.Notification) (empties (Waiters n) then frees n) (clears n) (notification-is n) c.args.state.now c.free.new.state both c.requires.room }

pub returns-clause-made : goal.returns-clause-made
returns-clause-made g c =
    let n = c.args.notification in
    let both = makes-then (empties (Waiters n)) (frees n) c.args.state.now c.restart_all.new.state c.free.new.state c.restart_all.ensures.made c.free.ensures.made in
    both-made (releases n kind.Notification) (empties (Waiters n) then frees n) (clears n) (notification-is n) c.args.state.now c.free.new.state c.clear.new.state both c.clear.ensures.made

pub returns-clause-released : goal.returns-clause-released
returns-clause-released g c =
    let n = c.args.notification in
    let empty = still-nobody (so_far c.restart_all.new.state) (so_far c.free.new.state) n (so_far-made (frees n) c.restart_all.new.state c.free.new.state c.free.ensures.made) c.restart_all.ensures.empty in
    let left = still-unwatched (so_far c.free.new.state) (so_far c.clear.new.state) n (so_far-made (clears n) c.free.new.state c.clear.new.state c.clear.ensures.made) empty c.free.ensures.unbound in
    (left.0, left.1, c.clear.ensures.homeless)
