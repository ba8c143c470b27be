use Rattle.std.proofs.Common.{◌≡◌, ◌∙◌, ap, refl, subst, List, ℕ}
use Rattle.indexmap.specs.IndexMap.{IndexMap}
use Rattle.std.specs.Global.{Vec}
use Rattle.mcs_types.specs.declared.id.ObjId.{ObjId}
use Rattle.mcs_lab_check.specs.GivenTo.{given_to, without, without_object}
use Rattle.mcs_lab_check.proofs.GivenTo.{changed, none-changed, none-found, seen}
use Rattle.mcs_lab_check.proofs.by_name.ByName.remove.Goals as goal

pub returns : goal.returns
returns c = λ q.
    let new = (c.get_mut.follows.lender c.remove_object.new.objects).entries in
    subst (λ (before : List (List ℕ × List ObjId)). given_to (seen new) q ≡ without c.args.name.now c.args.object (given_to before q) q) c.self.view_is
    (changed (without_object c.args.object) c.self.inside.objects.entries new c.args.name.now c.in-Some.objects.now c.remove_object.new.objects c.in-Some.ensures.value (c.get_mut.follows.holds c.remove_object.new.objects).0 c.remove_object.ensures q)

pub returns-in_default : goal.returns-in_default
returns-in_default c = λ q.
    let old = c.self.inside.objects.entries in
    let none = none-found c.args.name.now old c.in_default.ensures.value in
    ap (λ (m : IndexMap (Vec ℕ) (Vec ObjId) _). given_to (seen m.entries) q) c.get_mut.follows.holds-at-none
    ∙ subst (λ (before : List (List ℕ × List ObjId)). given_to (seen old) q ≡ without c.args.name.now c.args.object (given_to before q) q) c.self.view_is
    (none-changed (without_object c.args.object) (seen old) c.args.name.now refl none q)
