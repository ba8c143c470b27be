use Rattle.std.proofs.Common.{◌∙◌}
use Rattle.mcs_state.proofs.Answering.{unbound}
use Rattle.mcs_state.proofs.state.State.bound_of.Goals as goal

pub returns-in-None : goal.returns-in-None
returns-in-None g c = rw (← c.self.view_is) (unbound _ c.args.thread c.self.invariant.1.sound (c.in-None.ensures ∙ c.self.invariant.1.threads.rows c.args.thread))
