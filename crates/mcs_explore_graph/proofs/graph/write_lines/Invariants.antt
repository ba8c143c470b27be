use Rattle.mcs_explore_graph.specs.Graphs.{AreLines, Wrote}
use Rattle.mcs_explore_graph.proofs.graph.write_lines.Given as goal

abbrev pub invariant-loop-number : goal.invariant-loop-number
invariant-loop-number g l = Wrote g.W.Write.contents l.initial.to l.to (AreLines l.form l.script.users l.script.boot l.orders.search.map.entries l.orders.search.edges.items l.number)
