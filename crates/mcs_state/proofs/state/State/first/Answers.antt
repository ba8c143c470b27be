use Rattle.std.proofs.Common.{◌∙◌}
use Rattle.mcs_state.proofs.Answering.{first-is}
use Rattle.mcs_state.proofs.state.State.first.Goals as goal

pub returns : goal.returns
returns g c = rw (← c.self.view_is) (c.first.ensures ∙ first-is _ c.args.queue _ c.self.invariant.1.sound (c.self.invariant.1.queues.line c.args.queue))
