use Rattle.std.proofs.Common.{◌≡◌, [], length}
use Rattle.mcs_explore_script.specs.UserLists.{with_entries}
use Rattle.mcs_explore_script.proofs.users.users_of.Given as goal

abbrev pub invariant-loop-said : goal.invariant-loop-said
invariant-loop-said l = record {
  users : with_entries l.users l.said-iterator.rest.items ≡ with_entries [] l.fn.entries.items;
  count : l.said-iterator.rest.len ≡ length l.said-iterator.rest.items;
}
