use Rattle.std.proofs.Common.{◌∙◌}
use Rattle.mcs_state.proofs.Answering.{open-is}
use Rattle.mcs_state.proofs.state.State.letter.Goals as goal

pub returns : goal.returns
returns g c = rw (← c.self.view_is) (open-is _ c.args.thread _ c.self.invariant.1.sound (c.of.ensures ∙ c.self.invariant.1.letters c.args.thread))
