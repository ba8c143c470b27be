use Rattle.std.specs.Prelude.{ℕ, ◌≡◌, ◌<◌, Some, slice_get}
use Rattle.mcs_types.specs.declared.entry.Entry.{Entry}
use Rattle.mcs_types.specs.Ranges.{InRange}
use Rattle.mcs_explore_report.proofs.exploration.entries_are_in_range.Given as goal

abbrev pub invariant-loop-index : goal.invariant-loop-index
invariant-loop-index l = (j : ℕ) (e : Entry) → j < l.index → slice_get l.entries j ≡ Some e → InRange e
