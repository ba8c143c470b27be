use Rattle.std.proofs.Common.{rules}
use Rattle.std.proofs.lemmas.List.Edits.{map_over_more}
use Rattle.mcs_users.specs.Users.{scheduled}
use Rattle.mcs_users.proofs.lists.Lists.set_schedule.Goals as goal

pub loop-list-preserved : goal.loop-list-preserved
loop-list-preserved c =
    rw (c.set_schedule.ensures, ← c.list-item.is)
    (map_over_more (scheduled c.args.schedule) c.deref_mut-list-items.result.now c.loop-list.list-items c.loop-list.list-index
    c.list-item.result (search rules) c.loop-list.invariant c.list-item.is)
