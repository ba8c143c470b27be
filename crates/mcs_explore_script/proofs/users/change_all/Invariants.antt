use Rattle.std.proofs.Common.{◌≡◌, drop}
use Rattle.mcs_explore_script.specs.UserLists.{all_changed}
use Rattle.mcs_explore_script.proofs.users.change_all.Given as goal

abbrev pub invariant-loop-line : goal.invariant-loop-line
invariant-loop-line l = all_changed l.users (drop l.line-index l.asked) ≡ all_changed l.initial.users l.asked
