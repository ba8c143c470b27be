use Rattle.std.proofs.Common.{◌≡◌, ◌∙◌, ap, sym, subst, List, ℕ}
use Rattle.std.specs.Prelude.{bytes_eq}
use Rattle.std.specs.Map.{lookup}
use Rattle.mcs_types.specs.declared.id.ObjId.{ObjId}
use Rattle.mcs_lab_check.specs.GivenTo.{given_to, with_last}
use Rattle.mcs_lab_check.proofs.GivenTo.{put-first, seen}
use Rattle.mcs_lab_check.proofs.by_name.ByName.add_first.Goals as goal

pub returns-clause-added : goal.returns-clause-added
returns-clause-added c = λ q.
    let old = c.self.inside.objects.entries in
    let none = sym c.requires ∙ ap (λ (lists : List (List ℕ × List ObjId)). lookup (bytes_eq c.args.name.now) lists) (sym c.self.view_is) in
    subst (λ (before : List (List ℕ × List ObjId)). given_to (seen c.insert.new.self.entries) q ≡ with_last c.args.name.now c.args.object (given_to before q) q) c.self.view_is
    (put-first old c.insert.new.self.entries c.args.name.now c.in_ok-key.key c.in_ok-objects.objects c.args.object c.in_ok-key.ensures.items c.in_ok-objects.ensures.items none c.in_ok-insert.ensures.entries q)
