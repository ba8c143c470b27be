use Rattle.mcs_state.specs.Now.{so_far}
use Rattle.mcs_caps.proofs.Finding.{looked}
use Rattle.mcs_caps.proofs.Places.{named-slot}
use Rattle.mcs_caps.proofs.creation.find_vacant.Goals as goal

pub returns-clause-slot : goal.returns-clause-slot
returns-clause-slot g c =
    let R = so_far c.args.state.now in
    rw c.by_fields.ensures (named-slot R c.args.thread c.args.place c.in_ok-at.at c.is_sound.ensures.sound c.requires.entering (looked R c.args.thread c.args.place _ _ c.slot_named.ensures c.in_ok-at.was))
