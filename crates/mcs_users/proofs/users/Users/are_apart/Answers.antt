use Rattle.std.proofs.Common.{subst, List}
use Rattle.mcs_turns.specs.Turns.{User, AreApart}
use Rattle.mcs_users.proofs.Order.{apart}
use Rattle.mcs_users.proofs.users.Users.are_apart.Goals as goal

pub returns : goal.returns
returns c = subst (λ (us : List User). AreApart us) c.self.view_is (apart c.self.inside.lists c.self.invariant)
