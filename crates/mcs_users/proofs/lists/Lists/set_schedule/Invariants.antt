use Rattle.std.proofs.Common.{◌≡◌, ◌++◌, map, take, drop}
use Rattle.mcs_users.specs.Users.{scheduled}
use Rattle.mcs_users.proofs.lists.Lists.set_schedule.Given as goal

abbrev pub invariant-loop-list : goal.invariant-loop-list
invariant-loop-list l =
    l.list-items
    ≡ map (scheduled l.schedule) (take l.list-index l.initial.list-items) ++ drop l.list-index l.initial.list-items
