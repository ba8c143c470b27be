use Rattle.std.proofs.Common.{◌≡◌, ◌≤◌}
use Rattle.mcs_explore_report.specs.Outcomes.{count_lives}
use Rattle.mcs_explore_report.proofs.stuck_users.count_lives.Given as goal

abbrev pub invariant-loop-number : goal.invariant-loop-number
invariant-loop-number l = record {
  is : l.count ≡ count_lives l.asked l.number;
  few : l.count ≤ l.number;
}
