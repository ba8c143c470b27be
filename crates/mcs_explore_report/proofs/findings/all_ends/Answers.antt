use Rattle.std.proofs.Common.{List, subst}
use Rattle.mcs_explore_report.specs.Ends.{AreAllEnds, AreMerged, Kind}
use Rattle.mcs_explore_report.proofs.Merging.{all-merged}
use Rattle.mcs_explore_report.proofs.findings.all_ends.Goals as goal

pub returns : goal.returns
returns c =
    let kept = subst (λ (old : List Kind). AreMerged c.kinds.result.now old c.merge_all.new.self) c.new-ends.ensures c.in_ok-merge_all.ensures in
    let all = all-merged c.kinds.result.now c.kinds-2.result.now c.merge_all.new.self c.merge_all-2.new.self kept c.in_ok-merge_all-2.ensures in
    subst (λ (ks : List Kind). AreAllEnds ks c.args.deep.now c.merge_all-2.new.self) c.kinds.ensures (subst (λ (ds : List Kind). AreAllEnds c.kinds.result.now ds c.merge_all-2.new.self) c.kinds-2.ensures all)
