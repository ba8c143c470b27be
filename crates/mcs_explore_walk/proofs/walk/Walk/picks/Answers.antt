use Rattle.std.proofs.Common.{◌+◌, refl, subst, sym}
use Rattle.mcs_explore_walk.proofs.Scheduled.{ArePicksBelow, picks-next}
use Rattle.mcs_explore_walk.proofs.walk.Walk.picks.Goals as goal

pub loop-core-preserved : goal.loop-core-preserved
loop-core-preserved g c =
    let users = c.args.users.now in
    let walk = c.args.self.now in
    let n = c.loop-core.core in
    subst (λ ps. ArePicksBelow users walk (n + 1) ps) (sym c.in_ok-push.ensures)
    (picks-next users walk n c.loop-core.picks.items (record { 0 = n }) c.in_ok-on_core.on_core refl c.in_ok-on_core.ensures c.loop-core.invariant)
