use Rattle.std.specs.Prelude.{◌-◌, length}
use Rattle.std.proofs.Common.{arith, refl}
use Rattle.std.proofs.lemmas.Option.{slice_get_read}
use Rattle.mcs_explore_search.proofs.Marks.{swept-by}
use Rattle.mcs_explore_search.proofs.reachability.sweep.Goals as goal

pub loop-number-preserved : goal.loop-number-preserved
loop-number-preserved g c =
    let edges = c.args.edges.now in
    let lt = c.loop-number-test.true in
    let at = slice_get_read edges (length edges) (length edges - 1 - c.loop-number.number) c.in-Some.edge.now refl (omega (arith, lt)) c.in-Some.ensures.lookup.1 in
    swept-by edges c.args.marks.now.items c.requires c.loop-number.marks.items c.mark-added.new.marks.items c.loop-number.added c.mark-added.result c.loop-number.number (length edges - 1 - c.loop-number.number) c.in-Some.edge.now
    at lt refl c.mark-added.ensures.marks c.mark-added.ensures.added c.loop-number.invariant
