use Rattle.std.proofs.Common.{◌≡◌, ◌++◌}
use Rattle.mcs_explore_script.specs.RunTexts.{names_below}
use Rattle.mcs_explore_script.proofs.run_texts.push_names.Given as goal

abbrev pub invariant-loop-number : goal.invariant-loop-number
invariant-loop-number l = l.text.items ≡ l.fn.text.items ++ names_below l.names l.number
