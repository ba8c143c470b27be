use Rattle.std.proofs.Common.{◌≡◌, ◌+◌, length}
use Rattle.std.specs.List.{All}
use Rattle.mcs_explore_programs.specs.Programs.{IsProgram}
use Rattle.mcs_explore_script.proofs.programs.ended.Given as goal

abbrev pub invariant-loop-lines : goal.invariant-loop-lines
invariant-loop-lines l = record {
  count : length l.programs.items + l.lines-iterator.rest.len ≡ length l.fn.all.items;
  rest : l.lines-iterator.rest.len ≡ length l.lines-iterator.rest.items;
  each : All IsProgram l.programs.items;
}
