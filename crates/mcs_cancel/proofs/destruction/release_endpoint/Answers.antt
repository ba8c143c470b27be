use Rattle.std.proofs.Common.{sym, subst}
use Rattle.mcs_types.specs.declared.id.Kind.TheVariants as kind
use Rattle.mcs_types.specs.declared.record.Mode.TheVariants.{Restart}
use Rattle.mcs_types.specs.declared.record.Queue.TheVariants.{Senders, Receivers}
use Rattle.mcs_book.specs.Cancelling.{cancel_all, release}
use Rattle.mcs_book.specs.Queues.{queued_in}
use Rattle.mcs_state.specs.Doing.{Makes, HasRoomFor}
use Rattle.mcs_state.specs.Now.{so_far}
use Rattle.mcs_cancel.proofs.Emptying.{both-cancelled, still-empty}
use Rattle.mcs_cancel.proofs.Leaving.{room-one, room-other, both-made}
use Rattle.mcs_cancel.proofs.destruction.release_endpoint.Goals as goal

pub restart_all-requires : goal.restart_all-requires
restart_all-requires g c =
    let R = so_far c.args.state.now in
    let senders = queued_in R (Senders c.args.endpoint) in
    let receivers = queued_in R (Receivers c.args.endpoint) in
    record { room = room-one (release R c.args.endpoint kind.Endpoint) (cancel_all senders Restart) (cancel_all receivers Restart) (both-cancelled senders receivers Restart) c.args.state.now c.requires.room }

pub restart_all-requires-2 : goal.restart_all-requires-2
restart_all-requires-2 g c =
    let R = so_far c.args.state.now in
    let senders = queued_in R (Senders c.args.endpoint) in
    let receivers = queued_in R (Receivers c.args.endpoint) in
    let room = room-other (release R c.args.endpoint kind.Endpoint) (cancel_all senders Restart) (cancel_all receivers Restart) (both-cancelled senders receivers Restart) c.args.state.now c.restart_all.new.state c.restart_all.ensures.made c.requires.room in
    record { room = subst (λ xs. HasRoomFor (cancel_all xs Restart) c.restart_all.new.state) (sym (c.restart_all.ensures.others (Receivers c.args.endpoint) (λ is. cc))) room }

pub returns-clause-made : goal.returns-clause-made
returns-clause-made g c =
    let R = so_far c.args.state.now in
    let senders = queued_in R (Senders c.args.endpoint) in
    let receivers = queued_in R (Receivers c.args.endpoint) in
    let next = subst (λ xs. Makes (cancel_all xs Restart) c.restart_all.new.state c.restart_all-2.new.state) (c.restart_all.ensures.others (Receivers c.args.endpoint) (λ is. cc)) c.restart_all-2.ensures.made in
    both-made (release R c.args.endpoint kind.Endpoint) (cancel_all senders Restart) (cancel_all receivers Restart) (both-cancelled senders receivers Restart) c.args.state.now c.restart_all.new.state c.restart_all-2.new.state c.restart_all.ensures.made next

pub returns-clause-released : goal.returns-clause-released
returns-clause-released g c = (
  still-empty (so_far c.restart_all.new.state) (so_far c.restart_all-2.new.state) (Senders c.args.endpoint) c.is_sound.ensures.sound c.restart_all.ensures.empty (c.restart_all-2.ensures.others (Senders c.args.endpoint) (λ is. cc)),
  c.restart_all-2.ensures.empty,
)
