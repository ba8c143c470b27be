use Rattle.std.proofs.Common.{◌-◌, reverse, take}
use Rattle.std.specs.List.{flat_map}
use Rattle.mcs_trace.specs.Output.{Puts}
use Rattle.mcs_explore_script.specs.Steps.{step_lines}
use Rattle.mcs_explore_script.proofs.steps.put_lines.Given as goal

abbrev pub invariant-loop-number : goal.invariant-loop-number
invariant-loop-number g l = Puts g.W.Write.contents l.initial.sink l.sink (flat_map step_lines (take (l.number - 1) (reverse l.book.book.lines)))
