use Rattle.std.proofs.Common.{refl}
use Rattle.mcs_explore_walk.proofs.walk.Walk.new.Goals as goal

pub returns : goal.returns
returns g c = rw (c.in_ok-kernel.ensures, c.in_ok-places.ensures, c.in_ok-stale.ensures, c.lists.ensures, c.cores.ensures) refl
