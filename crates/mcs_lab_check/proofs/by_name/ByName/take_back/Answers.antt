use Rattle.std.proofs.Common.{rules, vec_len, ◌≡◌, ◌∙◌, ◌-◌, ap, refl, subst, take, length, List, ℕ}
use Rattle.std.specs.Global.{Vec}
use Rattle.indexmap.specs.IndexMap.{IndexMap}
use Rattle.mcs_types.specs.declared.id.ObjId.{ObjId}
use Rattle.mcs_lab_check.specs.GivenTo.{but_last, given_to}
use Rattle.mcs_lab_check.proofs.GivenTo.{changed, none-changed, none-found, seen}
use Rattle.mcs_lab_check.proofs.by_name.ByName.take_back.Goals as goal

pub returns : goal.returns
returns c = λ q.
    let new = (c.get_mut.follows.lender c.pop.new.self).entries in
    let all = c.in-Some.objects.now in
    let long : vec_len all ≡ length all.items = search rules in
    let rest = c.pop.ensures.rest ∙ ap (λ n. take (n - 1) all.items) long in
    subst (λ (before : List (List ℕ × List ObjId)). given_to (seen new) q ≡ but_last c.args.name.now (given_to before q) q) c.self.view_is
    (changed (λ (l : List ObjId). take (length l - 1) l) c.self.inside.objects.entries new c.args.name.now c.in-Some.objects.now c.pop.new.self c.in-Some.ensures.value (c.get_mut.follows.holds c.pop.new.self).0 rest q)

pub returns-in_default : goal.returns-in_default
returns-in_default c = λ q.
    let old = c.self.inside.objects.entries in
    let none = none-found c.args.name.now old c.in_default.ensures.value in
    ap (λ (m : IndexMap (Vec ℕ) (Vec ObjId) _). given_to (seen m.entries) q) c.get_mut.follows.holds-at-none
    ∙ subst (λ (before : List (List ℕ × List ObjId)). given_to (seen old) q ≡ but_last c.args.name.now (given_to before q) q) c.self.view_is
    (none-changed (λ (l : List ObjId). take (length l - 1) l) (seen old) c.args.name.now refl none q)
