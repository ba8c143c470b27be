use Rattle.std.proofs.Common.{◌≡◌, ◌++◌, drop}
use Rattle.mcs_explore_script.specs.Lives.{asked_lives}
use Rattle.mcs_explore_script.proofs.lives.asked_lives.Given as goal

abbrev pub invariant-loop-line : goal.invariant-loop-line
invariant-loop-line l = l.lives.items ++ asked_lives l.users (drop l.line-index l.asked) ≡ asked_lives l.users l.asked
