use Rattle.std.specs.Prelude.{length}
use Rattle.std.specs.Io.KnownBytes.{Appends}
use Rattle.std.proofs.Common.{ap, subst}
use Rattle.mcs_explore_graph.proofs.Written.{graph-written}
use Rattle.mcs_explore_graph.proofs.graph.write_orders.Goals as goal

pub returns : goal.returns
returns g c =
    let contents = g.W.Write.contents in
    let script = c.args.script.now in
    let search = c.args.orders.now.search in
    graph-written contents c.args.to.now c.write_all.new.self c.write_lines.new.to c.write_all-2.new.self c.args.form script.users script.boot search.map.entries search.edges.items
    c.states-states.result (length c.edges.result.now) c.in_ok-head.head.items c.end_of.result.now
    c.states-states.ensures (ap length c.edges.ensures) c.in_ok-head.ensures c.end_of.ensures
    (subst (λ bs. Appends (contents c.args.to.now) (contents c.write_all.new.self) bs) c.deref.ensures.value c.in_ok-write_all.ensures.bytes)
    c.in_ok-write_lines.ensures c.in_ok-write_all-2.ensures.bytes
