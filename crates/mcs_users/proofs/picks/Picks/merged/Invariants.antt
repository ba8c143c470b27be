use Rattle.std.proofs.Common.{◌≡◌, ◌++◌, drop}
use Rattle.mcs_users.specs.Picks.{with_any_pick, without_any_user}
use Rattle.mcs_users.proofs.picks.Picks.merged.Given as goal

abbrev pub invariant-loop-other : goal.invariant-loop-other
invariant-loop-other l = without_any_user l.user (with_any_pick l.fn.pick l.self) ≡ l.picks.items ++ without_any_user l.user (with_any_pick l.more (drop l.other-index l.self))
