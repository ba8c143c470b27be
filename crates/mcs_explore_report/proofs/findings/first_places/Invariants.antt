use Rattle.std.proofs.Common.{length}
use Rattle.mcs_explore_report.specs.Outcomes.{AreFirstPlaces}
use Rattle.mcs_explore_report.proofs.findings.first_places.Given as goal

abbrev pub invariant-loop-number : goal.invariant-loop-number
invariant-loop-number g l = AreFirstPlaces l.orders.search.edges.items (length l.orders.search.map.entries) l.orders.explorer.watch.lives.notes l.number l.places.items
