use Rattle.std.proofs.Common.{◌≡◌, drop}
use Rattle.mcs_turns.specs.Due.{with_picks}
use Rattle.mcs_users.proofs.picks.Picks.merged_all.Given as goal

abbrev pub invariant-loop-pick : goal.invariant-loop-pick
invariant-loop-pick l = with_picks l.more l.self ≡ with_picks (drop l.pick-index l.more) l.all
