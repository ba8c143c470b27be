use Rattle.std.proofs.Common.{nat_lt, sym, ap, ◌∙◌}
use Rattle.mcs_state.specs.Now.{so_far}
use Rattle.mcs_boots.proofs.Booting.{number-made}
use Rattle.mcs_boots.proofs.boot.checks.are_fewer.Goals as goal

pub returns : goal.returns
returns g c = ap (λ n. nat_lt n c.args.limit) (c.made.ensures ∙ sym (number-made (so_far c.args.state.now) c.args.kind c.requires))
