use Rattle.std.proofs.Common.{◌≡◌, subst, sym, List}
use Rattle.mcs_turns.specs.Turns.{User}
use Rattle.mcs_users.specs.Users.{AreInOrder, with_entry}
use Rattle.mcs_users.proofs.Order.{either, order-with}
use Rattle.mcs_users.proofs.users.Users.add.Goals as goal

pub invariant_of-self : goal.invariant_of-self
invariant_of-self c =
    let us : List User = c.self.inside.lists in
    let new : List User = c.add.new.self in
    either c.add.result (new ≡ with_entry us c.args.thread c.args.entry) (new ≡ us) (AreInOrder new)
    (λ added. subst (λ (vs : List User). AreInOrder vs) (sym added) (order-with us c.args.thread c.args.entry c.self.invariant))
    (λ same. subst (λ (vs : List User). AreInOrder vs) (sym same) c.self.invariant) c.add.ensures.added c.add.ensures.unchanged
