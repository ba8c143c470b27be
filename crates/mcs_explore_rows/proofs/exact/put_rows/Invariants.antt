use Rattle.std.proofs.Common.{◌∷◌, []}
use Rattle.mcs_book.specs.History.{log_of}
use Rattle.mcs_explore_rows.specs.Naming.{Adds, Keeps}
use Rattle.mcs_explore_rows.specs.Numbers.{below}
use Rattle.mcs_explore_rows.specs.Rows.{object_at, object_numbers}
use Rattle.mcs_explore_rows.proofs.exact.put_rows.Given as goal

abbrev pub invariant-loop-place : goal.invariant-loop-place
invariant-loop-place g l = Adds l.fn.met l.fn.numbers.items l.met l.numbers.items (below (λ i. object_numbers l.changing l.numbered (log_of l.kernel) (object_at l.kind i) ∷ []) l.place)
    × Keeps l.fn.met l.met
