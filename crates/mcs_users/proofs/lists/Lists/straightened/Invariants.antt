use Rattle.std.proofs.Common.{◌≡◌, ◌++◌, length, map}
use Rattle.mcs_users.specs.Users.{straightened}
use Rattle.mcs_users.proofs.lists.Lists.straightened.Given as goal

abbrev pub invariant-loop-list : goal.invariant-loop-list
invariant-loop-list l = record {
  lists : map straightened l.fn.self ≡ l.straight.items ++ map straightened l.list-iterator.rest.items;
  count : l.list-iterator.rest.len ≡ length l.list-iterator.rest.items;
}
