use Rattle.std.proofs.Common.{ap, ◌∙◌}
use Rattle.mcs_explore_walk.specs.Walks.{is_let_in}
use Rattle.mcs_explore_walk.proofs.Walking.{let-in}
use Rattle.mcs_explore_walk.proofs.walk.may_enter.Goals as goal

pub returns : goal.returns
returns g c = c.is_let_in.ensures ∙ ap (λ f. is_let_in f) c.fault.ensures ∙ let-in c.args.kernel.now c.args.core c.args.thread
