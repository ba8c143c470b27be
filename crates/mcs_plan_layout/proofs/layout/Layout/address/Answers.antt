use Rattle.std.proofs.Common.{ap, ◌∙◌}
use Rattle.mcs_book.specs.Lookup.{capability_from}
use Rattle.mcs_plan_layout.proofs.Walks.{own_is_named}
use Rattle.mcs_plan_layout.proofs.layout.Layout.address.Goals as goal

pub returns-clause-named : goal.returns-clause-named
returns-clause-named c = λ S root cap h.
    ap (λ a. capability_from S root a) c.scaled.ensures
    ∙ own_is_named c.args.self.now c.args.slot c.requires.laid_out c.requires.within S root cap h
