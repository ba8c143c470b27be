use Rattle.std.specs.Prelude.{◌≡◌, List, Some, slice_get}
use Rattle.std.specs.Io.KnownBytes.{Appends}
use Rattle.std.proofs.Common.{ap, refl, subst, sym, ◌∙◌}
use Rattle.mcs_explore_search.specs.declared.search.Edge.{Edge}
use Rattle.mcs_explore_walk.specs.declared.walk.Turn.{Turn}
use Rattle.mcs_explore_walk.proofs.Turning.{or-at}
use Rattle.mcs_explore_graph.proofs.Written.{lines-more, wrote-nothing}
use Rattle.mcs_explore_graph.proofs.graph.write_lines.Goals as goal

pub loop-number-init : goal.loop-number-init
loop-number-init g c = wrote-nothing g.W.Write.contents c.args.to.now _ refl

pub loop-number-preserved : goal.loop-number-preserved
loop-number-preserved g c =
    let script = c.args.script.now in
    let edges = c.args.orders.now.search.edges.items in
    let e = c.index-edges-number.result in
    let known = c.edges-edges.result.now in
    let n = c.loop-number.number in
    let at : slice_get edges n ≡ Some e = ap (λ (es : List (Edge Turn)). slice_get es n) (sym c.edges-edges.ensures) ∙ or-at known n e c.loop-number-test.true ∙ ap (λ (x : Edge Turn). Some x) (sym c.index-edges-number.is) in
    lines-more g.W.Write.contents c.args.to.now c.loop-number.to c.write_all.new.self c.args.form script.users script.boot c.args.orders.now.search.map.entries edges c.loop-number.number e c.in_ok-line.line.items
    c.loop-number.invariant at c.in_ok-line.ensures (subst (λ bs. Appends (g.W.Write.contents c.loop-number.to) (g.W.Write.contents c.write_all.new.self) bs) c.deref.ensures.value c.in_ok-write_all.ensures.bytes)
