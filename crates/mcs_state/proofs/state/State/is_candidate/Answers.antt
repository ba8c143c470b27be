use Rattle.std.proofs.Common.{sym, ◌∙◌}
use Rattle.mcs_state.proofs.Picking.{entrant-there}
use Rattle.mcs_state.proofs.state.State.is_candidate.Goals as goal

pub returns-then-may_enter-clause-there : goal.returns-then-may_enter-clause-there
returns-then-may_enter-clause-there g c = λ own. entrant-there _ c.args.core c.args.thread (sym c.may_enter.ensures ∙ c.if-may_enter.true)
