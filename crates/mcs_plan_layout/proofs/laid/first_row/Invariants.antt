use Rattle.std.proofs.Common.{◌≡◌, None, find, take}
use Rattle.mcs_plan_layout.specs.Naming.{is_row}
use Rattle.mcs_plan_layout.proofs.laid.first_row.Given as goal

abbrev pub invariant-loop-named : goal.invariant-loop-named
invariant-loop-named l = find (is_row l.word) (take l.named-index l.table) ≡ None
