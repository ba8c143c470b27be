use Rattle.std.proofs.Common.{◌∙◌, ap, List}
use Rattle.mcs_types.specs.declared.id.ObjId.{ObjId}
use Rattle.mcs_lab_check.specs.GivenTo.{named_by}
use Rattle.mcs_lab_check.specs.Naming.{Naming, what_named}
use Rattle.mcs_lab_check.proofs.GivenTo.{found-indexed}
use Rattle.mcs_lab_check.proofs.names.Labels.find.Goals as goal

pub returns : goal.returns
returns c =
    let names = c.self.inside in
    let word = c.args.name.now in
    c.named_by.ensures
    ∙ ap (λ (objects : List ObjId). named_by objects) c.of.ensures
    ∙ found-indexed names.latest names.by_name names.all.items word c.self.invariant
    ∙ ap (λ (all : List Naming). what_named all word) c.self.view_is
