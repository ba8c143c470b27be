use Rattle.std.proofs.Common.{◌≡◌, ◌++◌, slice_get}
use Rattle.mcs_plan_layout.specs.Boot.{each, filling, before_of}
use Rattle.mcs_plan_layout.proofs.laid.PlanLayout.fill_all.Given as goal

abbrev pub invariant-loop-place : goal.invariant-loop-place
invariant-loop-place l =
    (l.before ≡ before_of l.self.plan.spaces.items l.place)
    × (l.to.items ≡ l.initial.to.items ++ each l.place (λ p. filling l.self.layouts.items l.self.plan.spaces.items p (slice_get l.self.plan.spaces.items p)))
