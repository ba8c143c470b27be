use Rattle.mcs_book.specs.History.{log_of}
use Rattle.mcs_explore_report.specs.Origins.{AreSo, IsOrigin}
use Rattle.mcs_explore_report.proofs.slots.origins_in.Given as goal

abbrev pub invariant-loop-place : goal.invariant-loop-place
invariant-loop-place l = AreSo (IsOrigin l.boot (log_of l.kernel)) l.standing l.place l.origins.items
