use Rattle.std.proofs.Common.{◌∙◌}
use Rattle.mcs_state.proofs.Answering.{next-is}
use Rattle.mcs_state.proofs.state.State.next.Goals as goal

pub returns : goal.returns
returns g c = rw (← c.self.view_is) (c.next.ensures ∙ next-is _ c.args.thread _ _ c.self.invariant.1.sound (c.self.invariant.1.queues.queue c.args.thread) c.self.invariant.1.queues.line)
