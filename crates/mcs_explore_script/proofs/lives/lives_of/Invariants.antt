use Rattle.std.proofs.Common.{◌≡◌, ◌++◌, drop}
use Rattle.mcs_explore_script.specs.Lives.{lives_of, other_lives}
use Rattle.mcs_explore_script.proofs.lives.lives_of.Given as goal

abbrev pub invariant-loop-user : goal.invariant-loop-user
invariant-loop-user l = l.lives.items ++ other_lives l.asked l.user (drop l.user l.users) ≡ lives_of l.users l.asked
