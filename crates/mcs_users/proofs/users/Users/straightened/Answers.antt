use Rattle.std.proofs.Common.{sym, subst}
use Rattle.mcs_users.specs.Users.{AreInOrder, straightened}
use Rattle.mcs_users.proofs.Order.{order-threads}
use Rattle.mcs_users.proofs.Straight.{straight-thread}
use Rattle.mcs_users.proofs.users.Users.straightened.Goals as goal

pub invariant_of-result : goal.invariant_of-result
invariant_of-result c =
    subst (λ us. AreInOrder us) (sym c.in_ok-lists.ensures) (order-threads straightened straight-thread c.self.inside.lists c.self.invariant)
