use Rattle.mcs_state.proofs.Answering.{unmade-zero, made-below}
use Rattle.mcs_state.specs.Now.{so_far}
use Rattle.mcs_state.proofs.state.State.was_made.Goals as goal

pub returns-then-id-eq0 : goal.returns-then-id-eq0
returns-then-id-eq0 g c = unmade-zero (so_far c.args.self.now) c.args.id c.is_sound.ensures.sound c.if-id-eq0.true

pub returns : goal.returns
returns g c = rw c.made.ensures (made-below (so_far c.args.self.now) c.args.id c.is_sound.ensures.sound c.if-id-eq0.false)
