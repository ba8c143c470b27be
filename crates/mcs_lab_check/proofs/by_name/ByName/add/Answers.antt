use Rattle.std.proofs.Common.{◌≡◌, ◌∙◌, ◌++◌, ◌∷◌, [], ap, sym, subst, List, ℕ}
use Rattle.std.specs.Prelude.{bytes_eq}
use Rattle.std.specs.Map.{lookup}
use Rattle.std.specs.Global.{Vec}
use Rattle.indexmap.specs.IndexMap.{IndexMap}
use Rattle.mcs_types.specs.declared.id.ObjId.{ObjId}
use Rattle.mcs_lab_check.specs.GivenTo.{given_to, with_last}
use Rattle.mcs_lab_check.proofs.GivenTo.{at-error, changed, unchanged, none-found, seen}
use Rattle.mcs_lab_check.proofs.by_name.ByName.add.Goals as goal

pub returns-in_err-push-clause-unchanged : goal.returns-in_err-push-clause-unchanged
returns-in_err-push-clause-unchanged c = at-error c.from_residual.result _ (λ q.
    let new = (c.get_mut.follows.lender c.push.new.self).entries in
    subst (λ (before : List (List ℕ × List ObjId)). given_to (seen new) q ≡ given_to before q) c.self.view_is
    (unchanged c.self.inside.objects.entries new c.args.name.now c.in-Some.objects.now c.push.new.self c.in-Some.ensures.value (c.get_mut.follows.holds c.push.new.self).0 c.in_err-push.ensures.items q))

pub returns-in-Some-clause-added : goal.returns-in-Some-clause-added
returns-in-Some-clause-added c = λ q.
    let new = (c.get_mut.follows.lender c.push.new.self).entries in
    subst (λ (before : List (List ℕ × List ObjId)). given_to (seen new) q ≡ with_last c.args.name.now c.args.object (given_to before q) q) c.self.view_is
    (changed (λ (l : List ObjId). l ++ c.args.object ∷ []) c.self.inside.objects.entries new c.args.name.now c.in-Some.objects.now c.push.new.self c.in-Some.ensures.value (c.get_mut.follows.holds c.push.new.self).0 c.in_ok-push.ensures.items q)

pub add_first-requires : goal.add_first-requires
add_first-requires c =
    let lists = λ (m : IndexMap (Vec ℕ) (Vec ObjId) _). lookup (bytes_eq c.args.name.now) (seen m.entries) in
    ap lists c.get_mut.follows.holds-at-none ∙ sym (none-found c.args.name.now c.self.inside.objects.entries c.in_default.ensures.value)
