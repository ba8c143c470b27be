use Rattle.std.proofs.Common.{◌≡◌}
use Rattle.mcs_explore_orders.specs.Shown.{Shown}
use Rattle.mcs_explore_report.specs.Kept.{HasKept}
use Rattle.mcs_explore_run.specs.Samples.{AreOfRuns}
use Rattle.mcs_explore_run.proofs.samples.draw_runs.Given as goal

abbrev pub invariant-loop-number : goal.invariant-loop-number
invariant-loop-number l =
    (l.watched.asked.now ≡ l.script.asked.items)
    × ((shown : Shown)
    × (AreOfRuns l.script.users l.script.boot shown
    × HasKept l.script.users l.watched.asked.now l.watched.lives.lives shown l.watched.ends l.watched.answers l.watched.failed.items l.watched.lives.notes))
