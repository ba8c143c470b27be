use Rattle.std.proofs.Common.{◌≡◌, drop}
use Rattle.mcs_plan_compile.specs.Stepping.{begins_program}
use Rattle.mcs_plan_compile.proofs.lines.begins_program.Given as goal

abbrev pub invariant-loop-place : goal.invariant-loop-place
invariant-loop-place l = begins_program l.text ≡ begins_program (drop l.place l.text)
