use Rattle.std.specs.Prelude.{ℕ, ◌≡◌, ◌<◌, Some, slice_get}
use Rattle.mcs_types.specs.declared.entry.Entry.{Entry}
use Rattle.mcs_types.specs.Ranges.{InRange}
use Rattle.mcs_turns.specs.Turns.{User}
use Rattle.mcs_explore_report.proofs.exploration.are_in_range.Given as goal

abbrev pub invariant-loop-index : goal.invariant-loop-index
invariant-loop-index l = (i j : ℕ) (u : User) (e : Entry) → i < l.index → slice_get l.users i ≡ Some u → slice_get u.entries j ≡ Some e → InRange e
