use Rattle.std.proofs.Common.{◌≡◌, take}
use Rattle.mcs_plan_source.specs.Naming.{texts}
use Rattle.mcs_plan_compile.proofs.Zeroed.{zeroed_of}
use Rattle.mcs_plan_compile.proofs.programs.without_values.Given as goal

abbrev pub invariant-loop-i : goal.invariant-loop-i
invariant-loop-i l = texts l.plain.items ≡ zeroed_of (take l.i l.words)
