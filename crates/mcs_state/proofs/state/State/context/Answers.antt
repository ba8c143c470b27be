use Rattle.std.proofs.Common.{◌∙◌}
use Rattle.mcs_state.proofs.ContextLaws.{context-is, context-there}
use Rattle.mcs_state.proofs.state.State.context.Goals as goal

pub returns-clause-context : goal.returns-clause-context
returns-clause-context g c = rw (← c.self.view_is) (c.of.ensures ∙ context-is _ _ c.args.thread c.self.invariant.1.sound c.is_one_to_one.ensures.pairs c.self.invariant.1.contexts)

pub returns-clause-there : goal.returns-clause-there
returns-clause-there g c = rw (← c.self.view_is, c.of.ensures ∙ context-is _ _ c.args.thread c.self.invariant.1.sound c.is_one_to_one.ensures.pairs c.self.invariant.1.contexts) (context-there _ c.args.thread c.self.invariant.1.sound)
