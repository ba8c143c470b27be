use Rattle.std.proofs.Common.{◌≡◌, true}
use Rattle.mcs_explore_run.specs.Samples.{HasShownFailure, any_fails}
use Rattle.mcs_explore_run.proofs.evidence.all_judged.Given as goal

abbrev pub invariant-loop-number : goal.invariant-loop-number
invariant-loop-number l = any_fails l.all.items ≡ true → HasShownFailure l.script.users l.script.asked.items l.sample.watched.ends l.sample.watched.answers l.sample.watched.failed.items
