use Rattle.std.proofs.Common.{◌∙◌}
use Rattle.mcs_state.proofs.Answering.{unqueued}
use Rattle.mcs_state.proofs.state.State.queue.Goals as goal

pub returns-in-None : goal.returns-in-None
returns-in-None g c = rw (← c.self.view_is) (unqueued _ c.args.thread c.self.invariant.1.sound (c.in-None.ensures ∙ c.self.invariant.1.threads.rows c.args.thread))
