use Rattle.std.proofs.Common.{◌≡◌, min, take}
use Rattle.std.specs.List.{sum_by}
use Rattle.mcs_plan_source.specs.Slots.{leaves_of}
use Rattle.mcs_plan_source.proofs.plan.Plan.leaves.Given as goal

abbrev pub invariant-loop-space : goal.invariant-loop-space
invariant-loop-space l = l.count ≡ min (sum_by leaves_of (take l.space-index l.self.spaces.items)) 4294967295
