use Rattle.std.proofs.Common.{◌≡◌, drop}
use Rattle.mcs_plan_source.specs.Saying.{said}
use Rattle.mcs_plan_layout.specs.Laid.{laid_said}
use Rattle.mcs_plan_compile.specs.Opening.{openings_said}
use Rattle.mcs_plan_compile.proofs.compiler.Compiler.open_each.Given as goal

abbrev pub invariant-loop-place : goal.invariant-loop-place
invariant-loop-place l =
    (openings_said (laid_said l.fn.self.laid) (said l.fn.self.laid.plan).passives ≡ openings_said (laid_said l.fn.self.laid) (drop l.place (said l.fn.self.laid.plan).passives))
    × (l.self.laid ≡ l.fn.self.laid) × (l.self.entries ≡ l.fn.self.entries)
