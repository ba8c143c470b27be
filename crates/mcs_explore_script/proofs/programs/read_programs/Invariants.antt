use Rattle.std.proofs.Common.{◌≡◌, ◌≤◌, ◌+◌, [], false, length}
use Rattle.std.specs.List.{list_any}
use Rattle.mcs_text.specs.Reading.{lines_of}
use Rattle.mcs_explore_script.specs.Programs.{is_program_line}
use Rattle.mcs_explore_script.proofs.programs.read_programs.Given as goal

abbrev pub invariant-loop-line : goal.invariant-loop-line
invariant-loop-line l = record {
  none : list_any is_program_line (lines_of l.text) ≡ false → (l.all.items ≡ []) × (list_any is_program_line l.lines ≡ false);
  few : l.number + length l.lines ≤ 1 + length l.text;
}

abbrev pub decreases-loop-line : goal.decreases-loop-line
decreases-loop-line l = length l.lines
