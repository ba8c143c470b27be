use Rattle.std.proofs.Common.{◌≡◌, ◌++◌, drop}
use Rattle.mcs_explore_report.specs.Answers.{no_answers}
use Rattle.mcs_explore_report.proofs.answers.Answers.new.Given as goal

abbrev pub invariant-loop-user : goal.invariant-loop-user
invariant-loop-user l = no_answers l.lists ≡ l.tables.items ++ no_answers (drop l.user-index l.lists)
