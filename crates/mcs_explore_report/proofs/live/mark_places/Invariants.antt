use Rattle.std.specs.Prelude.{◌≡◌}
use Rattle.std.proofs.Common.{drop}
use Rattle.mcs_explore_report.specs.Stuck.{with_marks}
use Rattle.mcs_explore_report.proofs.live.mark_places.Given as goal

abbrev pub invariant-loop-place : goal.invariant-loop-place
invariant-loop-place l = with_marks (drop l.place-index l.places) l.marks.items ≡ with_marks l.places l.initial.marks.items
