use Rattle.std.proofs.Common.{◌≡◌, length}
use Rattle.mcs_explore_script.specs.Programs.{with_program_entries}
use Rattle.mcs_explore_script.proofs.users.add_entries.Given as goal

abbrev pub invariant-loop-given : goal.invariant-loop-given
invariant-loop-given l = record {
  users : with_program_entries l.users l.thread l.given-iterator.rest.items ≡ with_program_entries l.fn.users l.fn.thread l.fn.entries.items;
  count : l.given-iterator.rest.len ≡ length l.given-iterator.rest.items;
}
