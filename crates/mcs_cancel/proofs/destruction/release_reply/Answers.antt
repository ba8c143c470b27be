use Rattle.mcs_types.specs.declared.id.Kind.TheVariants as kind
use Rattle.mcs_book.specs.Cancelling.{void_deleted}
use Rattle.mcs_state.specs.Now.{so_far}
use Rattle.mcs_state.proofs.Doing.{so_far-made}
use Rattle.mcs_cancel.specs.Releasing.{releases, dismisses}
use Rattle.mcs_cancel.proofs.Leaving.{room-one, room-other, both-made}
use Rattle.mcs_cancel.proofs.Voiding.{reply-is, reply-released}
use Rattle.mcs_cancel.proofs.destruction.release_reply.Goals as goal

pub dismiss-requires : goal.dismiss-requires
dismiss-requires g c =
    let r = c.args.reply in
    record { room = room-one (releases r kind.Reply) (dismisses r) (void_deleted r) (reply-is r) c.args.state.now c.requires.room }

pub void_deleted-requires : goal.void_deleted-requires
void_deleted-requires g c =
    let r = c.args.reply in
    record { room = room-other (releases r kind.Reply) (dismisses r) (void_deleted r) (reply-is r) c.args.state.now c.dismiss.new.state c.dismiss.ensures.made c.requires.room }

pub returns-clause-made : goal.returns-clause-made
returns-clause-made g c =
    let r = c.args.reply in
    both-made (releases r kind.Reply) (dismisses r) (void_deleted r) (reply-is r) c.args.state.now c.dismiss.new.state c.void_deleted.new.state c.dismiss.ensures.made c.void_deleted.ensures

pub returns-clause-released : goal.returns-clause-released
returns-clause-released g c = reply-released (so_far c.dismiss.new.state) (so_far c.void_deleted.new.state) c.args.reply (so_far-made (void_deleted c.args.reply) c.dismiss.new.state c.void_deleted.new.state c.void_deleted.ensures) c.dismiss.ensures.unattended
