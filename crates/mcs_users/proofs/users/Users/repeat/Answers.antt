use Rattle.std.proofs.Common.{sym, subst, ◌∙◌}
use Rattle.mcs_types.specs.Ids.{same}
use Rattle.mcs_turns.specs.Turns.{User}
use Rattle.mcs_users.specs.Users.{AreInOrder}
use Rattle.mcs_users.proofs.Order.{order-repeat}
use Rattle.mcs_users.proofs.users.Users.repeat.Goals as goal

pub invariant_of-self : goal.invariant_of-self
invariant_of-self c =
    subst (λ us. AreInOrder us) (sym c.repeat_at.ensures)
    (order-repeat (λ (u : User). same u.thread c.args.thread) c.self.inside.lists c.in-Some.place c.args.number c.self.invariant (sym c.find.ensures ∙ c.in-Some.is))
