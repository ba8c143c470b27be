use Rattle.std.proofs.Common.{sym, ◌∙◌}
use Rattle.mcs_book.proofs.Chains.ChainLaws.{chain_of-growing}
use Rattle.mcs_state.proofs.state.State.chain.Goals as goal

pub returns : goal.returns
returns g c = rw (← c.self.view_is) (c.chain_of.ensures ∙ c.self.invariant.1.replies.chains c.args.context ∙ sym (chain_of-growing _ c.args.context c.self.invariant.1.sound))
