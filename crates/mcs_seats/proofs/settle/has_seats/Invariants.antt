use Rattle.std.proofs.Common.{ℕ, ◌≡◌, ◌<◌, ◌==◌, true}
use Rattle.std.specs.List.{list_any}
use Rattle.mcs_seats.proofs.settle.has_seats.Given as goal

abbrev pub invariant-loop-core : goal.invariant-loop-core
invariant-loop-core g l = (k : ℕ) → k < l.core → list_any (λ s. s.core.0 == k) l.seats.items ≡ true
