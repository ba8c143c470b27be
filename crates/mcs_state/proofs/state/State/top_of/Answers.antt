use Rattle.mcs_state.proofs.DebtLaws.{top-is}
use Rattle.mcs_state.proofs.state.State.top_of.Goals as goal

pub returns : goal.returns
returns g c = rw (← c.self.view_is) (top-is _ c.self.inside.replies c.args.context c.top_of.result c.self.invariant.1.sound c.self.invariant.1.replies c.top_of.ensures)
