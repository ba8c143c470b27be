use Rattle.std.proofs.Common.{refl}
use Rattle.std.proofs.lemmas.Option.{slice_get_read}
use Rattle.mcs_explore_report.proofs.Merging.{merged-next}
use Rattle.mcs_explore_report.proofs.ends.Ends.merge_all.Goals as goal

pub loop-index-preserved : goal.loop-index-preserved
loop-index-preserved c =
    let lt = c.loop-index-test.true in
    let at = slice_get_read c.args.more.now _ c.loop-index.index c.index-more-index.result refl lt c.index-more-index.is in
    merged-next c.args.more.now c.args.self.now c.loop-index.self c.merge.new.self c.loop-index.index c.index-more-index.result at c.in_ok-merge.ensures c.loop-index.invariant
