use Rattle.std.proofs.Common.{◌≡◌, ◌+◌, drop}
use Rattle.mcs_plan_source.specs.Naming.{texts}
use Rattle.mcs_plan_compile.specs.Stepping.{count_before}
use Rattle.mcs_plan_compile.proofs.lines.count_before.Given as goal

abbrev pub invariant-loop-place : goal.invariant-loop-place
invariant-loop-place l = count_before (texts l.lines) ≡ l.place + count_before (drop l.place (texts l.lines))
