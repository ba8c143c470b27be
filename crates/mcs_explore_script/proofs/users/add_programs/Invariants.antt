use Rattle.std.proofs.Common.{◌≡◌, ◌++◌, length}
use Rattle.mcs_explore_script.specs.Programs.{labels_of, with_programs}
use Rattle.mcs_explore_script.proofs.users.add_programs.Given as goal

abbrev pub invariant-loop-program : goal.invariant-loop-program
invariant-loop-program l = record {
  users : with_programs l.users l.program-iterator.rest.items ≡ with_programs l.fn.users l.fn.programs.items;
  labels : l.labels.items ++ labels_of l.program-iterator.rest.items ≡ l.fn.labels.items ++ labels_of l.fn.programs.items;
  count : l.program-iterator.rest.len ≡ length l.program-iterator.rest.items;
}
