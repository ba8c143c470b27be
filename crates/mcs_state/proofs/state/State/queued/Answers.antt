use Rattle.mcs_state.specs.Now.{so_far}
use Rattle.mcs_state.proofs.Walking.{all-from}
use Rattle.mcs_state.proofs.state.State.queued.Goals as goal

pub returns : goal.returns
returns g c = all-from (so_far c.args.self.now) c.args.queue c.first.result c.is_sound.ensures.sound c.is_sound.ensures.threads c.first.ensures
