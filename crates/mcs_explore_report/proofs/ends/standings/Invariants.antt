use Rattle.std.proofs.Common.{◌≡◌}
use Rattle.mcs_explore_report.specs.Standings.{standings_below}
use Rattle.mcs_explore_report.proofs.ends.standings.Given as goal

abbrev pub invariant-loop-user : goal.invariant-loop-user
invariant-loop-user l = l.standing.items ≡ standings_below l.users l.walk l.user
