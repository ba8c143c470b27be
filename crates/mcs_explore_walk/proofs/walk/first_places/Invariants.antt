use Rattle.std.proofs.Common.{◌≡◌, ◌++◌, drop, map}
use Rattle.mcs_turns.specs.Turns.{started}
use Rattle.mcs_explore_walk.proofs.walk.first_places.Given as goal

abbrev pub invariant-loop-user : goal.invariant-loop-user
invariant-loop-user l = map started l.users ≡ l.places.items ++ map started (drop l.user-index l.users)
