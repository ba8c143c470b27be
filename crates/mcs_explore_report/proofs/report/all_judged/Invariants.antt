use Rattle.std.proofs.Common.{◌≡◌, true, length}
use Rattle.mcs_explore_report.specs.Outcomes.{AreHeldBelow, HasMissed, all_hold, any_fails, are_live}
use Rattle.mcs_explore_report.proofs.report.all_judged.Given as goal

abbrev pub invariant-loop-number : goal.invariant-loop-number
invariant-loop-number g l =
    let f = l.findings in
    let w = f.orders.now.explorer.watch in
    (all_hold l.all.items ≡ true → AreHeldBelow f.script.now.users f.ends w.answers w.failed.items f.script.now.asked.items l.number)
    × (any_fails l.all.items ≡ true → HasMissed f.script.now.users f.ends w.answers w.failed.items f.script.now.asked.items (are_live f.places.items) (length f.orders.now.search.map.entries) f.orders.now.search.done)
