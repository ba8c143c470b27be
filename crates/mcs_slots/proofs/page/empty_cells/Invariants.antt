use Rattle.std.proofs.Common.{◌≡◌, None, replicate}
use Rattle.mcs_slots.proofs.page.empty_cells.Given as goal

abbrev pub invariant-loop : goal.invariant-loop
invariant-loop l = l.cells.items ≡ replicate l.counter None
