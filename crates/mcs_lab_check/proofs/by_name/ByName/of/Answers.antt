use Rattle.std.proofs.Common.{ap, ◌∙◌, List, ℕ, Option, []}
use Rattle.std.specs.Prelude.{unwrap_or}
use Rattle.mcs_types.specs.declared.id.ObjId.{ObjId}
use Rattle.mcs_lab_check.specs.GivenTo.{given_to}
use Rattle.mcs_lab_check.proofs.GivenTo.{objects-found, none-found}
use Rattle.mcs_lab_check.proofs.by_name.ByName.of.Goals as goal

pub returns-in-Some : goal.returns-in-Some
returns-in-Some c =
    c.as_slice.ensures.value
    ∙ objects-found c.args.name.now c.self.inside.objects.entries c.in-Some.objects.now c.in-Some.ensures.value
    ∙ ap (λ (lists : List (List ℕ × List ObjId)). given_to lists c.args.name.now) c.self.view_is

pub returns-in-None : goal.returns-in-None
returns-in-None c =
    ap (λ (f : Option (List ObjId)). unwrap_or f []) (none-found c.args.name.now c.self.inside.objects.entries c.in-None.ensures.value)
    ∙ ap (λ (lists : List (List ℕ × List ObjId)). given_to lists c.args.name.now) c.self.view_is
