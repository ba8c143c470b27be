use Rattle.std.specs.Prelude.{◌≡◌, ◌++◌, true, replicate}
use Rattle.mcs_explore_report.proofs.live.push_marks.Given as goal

abbrev pub invariant-loop-number : goal.invariant-loop-number
invariant-loop-number l = l.marks.items ≡ l.initial.marks.items ++ replicate l.number true
