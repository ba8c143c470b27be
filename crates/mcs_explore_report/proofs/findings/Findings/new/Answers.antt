use Rattle.std.proofs.Common.{List, ap, subst, sym, slice_get, ◌∙◌}
use Rattle.mcs_explore_report.specs.Ends.{AreRunEnds, Kind}
use Rattle.mcs_explore_report.proofs.Merging.{all-runs}
use Rattle.mcs_explore_report.proofs.findings.Findings.new.Goals as goal

pub returns-clause-ends : goal.returns-clause-ends
returns-clause-ends g c = λ i k at. c.in_ok-ends.ensures.kept i k (ap (λ (ends : List Kind). slice_get ends i) (ap (λ (w : _). w.ends) c.watch.ensures) ∙ at)

pub returns-clause-real : goal.returns-clause-real
returns-clause-real g c = λ kept.
    let users = c.args.script.now.users in
    let boot = c.args.script.now.boot in
    all-runs users boot c.watch.result.now.ends c.in_ok-deep.deep c.in_ok-ends.ends c.in_ok-ends.ensures (subst (λ (ks : List Kind). AreRunEnds users boot ks) (sym (ap (λ (w : _). w.ends) c.watch.ensures)) kept) c.in_ok-deep.ensures
