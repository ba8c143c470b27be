use Rattle.std.proofs.Common.{◌≡◌, drop}
use Rattle.mcs_plan_source.specs.Naming.{texts}
use Rattle.mcs_plan_source.specs.Saying.{said, nothing_said}
use Rattle.mcs_plan_compile.specs.Reading.{lines_said}
use Rattle.mcs_plan_compile.proofs.compiler.read_plan.Given as goal

abbrev pub invariant-loop-count : goal.invariant-loop-count
invariant-loop-count l = lines_said 0 (texts l.lines) nothing_said ≡ lines_said l.count (drop l.count (texts l.lines)) (said l.plan)
