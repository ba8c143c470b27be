use Rattle.std.proofs.Common.{◌<◌, length, arith}
use Rattle.mcs_explore_report.specs.Outcomes.{are_live}
use Rattle.mcs_explore_report.proofs.Judged.{judged-next, missed-next}
use Rattle.mcs_explore_search.proofs.Places.{within-at}
use Rattle.mcs_explore_report.proofs.report.all_judged.Goals as goal

pub loop-number-preserved : goal.loop-number-preserved
loop-number-preserved g c =
    let f = c.args.findings.now in
    let asked = f.script.now.asked.items in
    let w = f.orders.now.explorer.watch in
    let states = length f.orders.now.search.map.entries in
    let lt : c.loop-number.number < length asked = let test = c.loop-number-test.true in let long = c.len-number-end.ensures in omega (arith, test, long) in
    let q = within-at asked c.loop-number.number lt in (
      judged-next f.script.now.users f.ends w.answers w.failed.items asked (are_live f.places.items) states f.orders.now.search.done c.loop-number.number q.0 c.loop-number.all.items c.push_judged.new.all.items q.1 c.in_ok-push_judged.ensures c.loop-number.invariant.0,
      missed-next f.script.now.users f.ends w.answers w.failed.items asked (are_live f.places.items) states f.orders.now.search.done c.loop-number.number q.0 c.loop-number.all.items c.push_judged.new.all.items q.1 c.in_ok-push_judged.ensures c.loop-number.invariant.1,
    )
