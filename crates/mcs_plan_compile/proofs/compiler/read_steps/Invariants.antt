use Rattle.std.proofs.Common.{◌≡◌, drop}
use Rattle.mcs_plan_source.specs.Naming.{texts}
use Rattle.mcs_plan_layout.specs.Laid.{laid_said}
use Rattle.mcs_plan_compile.specs.StepLines.{lines_taken}
use Rattle.mcs_plan_compile.proofs.compiler.read_steps.Given as goal

abbrev pub invariant-loop-count : goal.invariant-loop-count
invariant-loop-count l =
    (lines_taken (laid_said l.fn.compiler.laid) l.before (drop l.before (texts l.lines)) l.fn.compiler.entries
    ≡ lines_taken (laid_said l.fn.compiler.laid) l.count (drop l.count (texts l.lines)) l.compiler.entries)
    × (l.compiler.laid ≡ l.fn.compiler.laid)
