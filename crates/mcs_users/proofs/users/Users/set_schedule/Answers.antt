use Rattle.std.proofs.Common.{refl, sym, subst}
use Rattle.mcs_users.specs.Users.{AreInOrder, scheduled}
use Rattle.mcs_users.proofs.Order.{order-threads}
use Rattle.mcs_users.proofs.users.Users.set_schedule.Goals as goal

pub invariant_of-self : goal.invariant_of-self
invariant_of-self c =
    subst (λ us. AreInOrder us) (sym c.set_schedule.ensures)
    (order-threads (scheduled c.args.schedule) (λ u. refl) c.self.inside.lists c.self.invariant)
