use Rattle.std.proofs.Common.{◌∷◌, [], slice_get}
use Rattle.mcs_explore_rows.specs.Naming.{Adds, Keeps}
use Rattle.mcs_explore_rows.specs.Numbers.{below, option_numbers}
use Rattle.mcs_explore_rows.specs.Rows.{position_numbers}
use Rattle.mcs_explore_rows.proofs.exact.put_places.Given as goal

abbrev pub invariant-loop-user : goal.invariant-loop-user
invariant-loop-user g l = Adds l.fn.met l.fn.numbers.items l.met l.numbers.items (below (λ i. option_numbers position_numbers (slice_get l.walk.places i) ∷ []) l.user) × Keeps l.fn.met l.met
