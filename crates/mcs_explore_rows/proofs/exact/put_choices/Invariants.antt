use Rattle.std.proofs.Common.{◌∷◌, [], slice_get}
use Rattle.mcs_turns.specs.Due.{choices}
use Rattle.mcs_explore_rows.specs.Naming.{Adds, Keeps}
use Rattle.mcs_explore_rows.specs.Numbers.{below, list_numbers, option_numbers}
use Rattle.mcs_explore_rows.specs.Rows.{pick_numbers}
use Rattle.mcs_explore_rows.proofs.exact.put_choices.Given as goal

abbrev pub invariant-loop-core : goal.invariant-loop-core
invariant-loop-core g l =
    Adds l.fn.met l.fn.numbers.items l.met l.numbers.items (below (λ i. option_numbers (list_numbers pick_numbers) (slice_get (choices l.picks l.walk.stale) i) ∷ []) l.core) × Keeps l.fn.met l.met
