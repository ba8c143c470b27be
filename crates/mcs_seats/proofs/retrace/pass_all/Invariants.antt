use Rattle.std.proofs.Common.{◌≡◌, ◌++◌, map, take, drop}
use Rattle.mcs_seats.specs.Trails.{past_line}
use Rattle.mcs_seats.proofs.retrace.pass_all.Given as goal

abbrev pub invariant-loop-follower : goal.invariant-loop-follower
invariant-loop-follower g l =
    l.follower-items
    ≡ map past_line (take l.follower-index l.initial.follower-items) ++ drop l.follower-index l.initial.follower-items
