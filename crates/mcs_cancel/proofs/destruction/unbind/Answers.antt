use Rattle.mcs_book.specs.Cancelling.{unbind}
use Rattle.mcs_state.specs.Now.{so_far}
use Rattle.mcs_state.proofs.Doing.{so_far-made}
use Rattle.mcs_cancel.specs.Releasing.{unhomes, unholds}
use Rattle.mcs_cancel.proofs.Leaving.{room-one, room-other, both-made}
use Rattle.mcs_cancel.proofs.Releasing.{unbind-is, still-homeless}
use Rattle.mcs_cancel.proofs.destruction.unbind.Goals as goal

pub unhome-requires : goal.unhome-requires
unhome-requires g c =
    let s = c.args.context in
    record { room = room-one (unbind s) (unhomes s) (unholds s) (unbind-is s) c.args.state.now c.requires.room }

pub unhold-requires : goal.unhold-requires
unhold-requires g c =
    let s = c.args.context in
    record { room = room-other (unbind s) (unhomes s) (unholds s) (unbind-is s) c.args.state.now c.unhome.new.state c.unhome.ensures.made c.requires.room }

pub returns-clause-made : goal.returns-clause-made
returns-clause-made g c =
    let s = c.args.context in
    both-made (unbind s) (unhomes s) (unholds s) (unbind-is s) c.args.state.now c.unhome.new.state c.unhold.new.state c.unhome.ensures.made c.unhold.ensures.made

pub returns-clause-released : goal.returns-clause-released
returns-clause-released g c =
    let s = c.args.context in
    (c.unhold.ensures.unheld, still-homeless (so_far c.unhome.new.state) (so_far c.unhold.new.state) s (so_far-made (unholds s) c.unhome.new.state c.unhold.new.state c.unhold.ensures.made) c.unhome.ensures.homeless)
