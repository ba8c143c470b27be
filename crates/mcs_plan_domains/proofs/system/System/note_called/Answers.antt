use Rattle.std.proofs.Common.{slice_set, ap, ◌∙◌}
use Rattle.mcs_plan_domains.proofs.Joins.{called_there}
use Rattle.mcs_plan_domains.proofs.system.System.note_called.Goals as goal

pub returns-in-Some-clause-domains : goal.returns-in-Some-clause-domains
returns-in-Some-clause-domains c =
    ap (λ d. slice_set c.args.self.now.domains.items c.args.place d) c.be_called.ensures
    ∙ called_there c.args.self.now.domains.items c.args.place c.in-Some.domain.now c.in-Some.domain.now c.in-Some.ensures.item.3.0 c.in-Some.ensures.item.1
