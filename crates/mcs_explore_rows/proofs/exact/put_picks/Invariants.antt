use Rattle.std.proofs.Common.{◌≡◌, ◌++◌, drop}
use Rattle.mcs_explore_rows.specs.Numbers.{list_numbers}
use Rattle.mcs_explore_rows.specs.Rows.{pick_numbers}
use Rattle.mcs_explore_rows.proofs.exact.put_picks.Given as goal

abbrev pub invariant-loop-pick : goal.invariant-loop-pick
invariant-loop-pick l = l.fn.row.items ++ list_numbers pick_numbers l.picks ≡ l.row.items ++ list_numbers pick_numbers (drop l.pick-index l.picks)
