use Rattle.std.specs.Prelude.{◌≡◌, None, replicate}
use Rattle.mcs_explore_report.proofs.watcher.no_failures.Given as goal

abbrev pub invariant-loop-number : goal.invariant-loop-number
invariant-loop-number l = l.failed.items ≡ replicate l.number None
