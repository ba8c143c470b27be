use Rattle.std.proofs.Common.{sym, subst, ◌∙◌}
use Rattle.mcs_types.specs.Ids.{same}
use Rattle.mcs_turns.specs.Turns.{User}
use Rattle.mcs_users.specs.Users.{AreInOrder}
use Rattle.mcs_users.proofs.Order.{order-programmed}
use Rattle.mcs_users.proofs.users.Users.program.Goals as goal

pub invariant_of-self : goal.invariant_of-self
invariant_of-self c =
    subst (λ us. AreInOrder us) (sym c.program_at.ensures)
    (order-programmed (λ (u : User). same u.thread c.args.thread) c.self.inside.lists c.in-Some.place c.args.ops.items c.args.fills.items c.self.invariant (sym c.find.ensures ∙ c.in-Some.is))
