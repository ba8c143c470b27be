use Rattle.std.proofs.Common.{◌≡◌, Some, sym, ◌∙◌}
use Rattle.mcs_book.specs.Threads.{root_of}
use Rattle.mcs_state.proofs.Answering.{capability-is}
use Rattle.mcs_state.proofs.Following.{seen}
use Rattle.mcs_state.proofs.state.State.capability.Goals as goal

pub returns : goal.returns
returns g c = rw (← c.self.view_is) (c.lookup.ensures.value ∙ sym (capability-is _ c.self.inside.slots c.args.thread c.root.result.now c.args.address c.self.invariant.1.slots (seen c.self.view_is (λ R. root_of R c.args.thread ≡ Some c.root.result.now) c.root.ensures)))
