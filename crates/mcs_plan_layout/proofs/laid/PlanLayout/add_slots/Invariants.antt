use Rattle.std.proofs.Common.{◌≡◌, ◌++◌}
use Rattle.mcs_plan_source.specs.Slots.{cap_at}
use Rattle.mcs_plan_layout.specs.Boot.{each, slot_lines}
use Rattle.mcs_plan_layout.proofs.laid.PlanLayout.add_slots.Given as goal

abbrev pub invariant-loop-index : goal.invariant-loop-index
invariant-loop-index l = l.to.items ≡ l.initial.to.items ++ each l.index (λ i. slot_lines l.self.layouts.items l.site i (cap_at l.space i))
