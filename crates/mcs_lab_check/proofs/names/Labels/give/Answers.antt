use Rattle.std.proofs.Common.{◌≡◌, ap, ◌∙◌, ◌++◌, ◌∷◌, [], List, ℕ}
use Rattle.mcs_lab_check.specs.Naming.{Naming}
use Rattle.mcs_lab_check.proofs.GivenTo.{indexed-renamed, indexed-same}
use Rattle.mcs_lab_check.proofs.names.Labels.give.Goals as goal

pub invariant_of-self-in_err-rename : goal.invariant_of-self-in_err-rename
invariant_of-self-in_err-rename c =
    let was = c.self.inside in
    indexed-same was.latest c.rename.new.latest was.by_name c.rename.new.by_name was.all.items c.reserve.new.self.items c.self.invariant c.reserve.ensures.items
    c.in_err-rename.ensures.names_stay c.in_err-rename.ensures.objects_stay

pub invariant_of-self-2 : goal.invariant_of-self-2
invariant_of-self-2 c =
    let was = c.self.inside in
    let more = c.in_ok-push.ensures.items ∙ ap (λ (all : List Naming). all ++ record { object = c.args.object; name = c.in_ok-name.name.items } ∷ []) c.reserve.ensures.items
    ∙ ap (λ (word : List ℕ). was.all.items ++ record { object = c.args.object; name = word } ∷ []) c.in_ok-name.ensures.items in
    indexed-renamed was.latest c.rename.new.latest was.by_name c.rename.new.by_name was.all.items c.push.new.self.items c.args.object c.args.word.now c.self.invariant more
    c.in_ok-rename.ensures.named c.in_ok-rename.ensures.moved
