use Rattle.std.proofs.Common.{ap, ◌∙◌}
use Rattle.mcs_explore_report.specs.Ends.{Kind}
use Rattle.mcs_explore_report.proofs.Merging.{merged-again}
use Rattle.mcs_explore_report.proofs.ends.Ends.merge.Goals as goal

pub returns-in-Some : goal.returns-in-Some
returns-in-Some c = merged-again _ _ _ _ _ _ (c.deref.ensures.value ∙ ap (λ (k : Kind). k.standing) c.more.view_is) (ap (λ (k : Kind). k.count) c.more.view_is) c.in-Some.ensures.some c.count.ensures
