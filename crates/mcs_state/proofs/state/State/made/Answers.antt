use Rattle.std.proofs.Common.{◌∙◌}
use Rattle.mcs_state.proofs.state.State.made.Goals as goal

pub returns-in-CNode : goal.returns-in-CNode
returns-in-CNode g c = rw (← c.self.view_is, c.in-CNode.is) (c.len.ensures ∙ c.self.invariant.1.slots.made)
