use Rattle.std.proofs.Common.{All, take}
use Rattle.mcs_seats.specs.Trails.{AllRight}
use Rattle.mcs_seats.proofs.retrace.torn_follower.Given as goal

abbrev pub invariant-loop-follower : goal.invariant-loop-follower
invariant-loop-follower g l = All AllRight (take l.follower-index l.followers.items)
