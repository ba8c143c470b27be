use Rattle.std.specs.Prelude.{length}
use Rattle.mcs_explore_report.proofs.Stuck.{marks-within, stuck-at}
use Rattle.mcs_explore_report.proofs.live.stuck_at.Goals as goal

pub mark_all_led-requires : goal.mark_all_led-requires
mark_all_led-requires g c =
    let search = c.args.orders.now.search in
    marks-within search.edges.items c.edges.result.now (length search.map.entries) c.states.result c.args.notes.now c.in_ok-marks.marks.items c.edges.ensures c.states.ensures c.in_ok-marks.ensures c.requires

pub returns : goal.returns
returns g c =
    let search = c.args.orders.now.search in
    stuck-at search.edges.items c.edges.result.now (length search.map.entries) c.states.result c.args.notes.now c.in_ok-marks.marks.items c.mark_all_led.new.marks.items c.deref.result.now c.first_unmarked.result
    c.edges.ensures c.states.ensures c.in_ok-marks.ensures c.mark_all_led.ensures c.deref.ensures.value c.first_unmarked.ensures
