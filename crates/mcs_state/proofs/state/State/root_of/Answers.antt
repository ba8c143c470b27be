use Rattle.std.proofs.Common.{Some, ap, ◌∙◌}
use Rattle.mcs_state.proofs.Asking.{root-row, rootless}
use Rattle.mcs_state.proofs.state.State.root_of.Goals as goal

pub returns-in-None : goal.returns-in-None
returns-in-None g c = rw (← c.self.view_is) (rootless _ c.args.thread c.self.invariant.1.sound (c.in-None.ensures ∙ c.self.invariant.1.threads.rows c.args.thread))

pub returns-in-Some : goal.returns-in-Some
returns-in-Some g c = rw (← c.self.view_is) (ap (λ x. Some x) c.again.ensures ∙ root-row _ c.args.thread _ c.self.invariant.1.sound (c.in-Some.ensures ∙ c.self.invariant.1.threads.rows c.args.thread))
