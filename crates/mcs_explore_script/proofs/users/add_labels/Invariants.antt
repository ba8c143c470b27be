use Rattle.std.proofs.Common.{◌≡◌, ◌++◌, length}
use Rattle.mcs_explore_script.proofs.users.add_labels.Given as goal

abbrev pub invariant-loop-label : goal.invariant-loop-label
invariant-loop-label l = record {
  labels : l.all.items ++ l.label-iterator.rest.items ≡ l.fn.all.items ++ l.fn.more.items;
  count : l.label-iterator.rest.len ≡ length l.label-iterator.rest.items;
}
