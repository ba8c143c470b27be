use Rattle.std.proofs.Common.{◌≡◌, Some, None, slice_get, refl, sym, ap, ◌∙◌, List}
use Rattle.std.proofs.lemmas.Option.{slice_get_read, slice_get_past}
use Rattle.mcs_plan_source.specs.declared.plan.Space.{Space}
use Rattle.mcs_plan_source.proofs.Places.{slot_there, no_slot_there}
use Rattle.mcs_plan_source.proofs.plan.Plan.has_slot.Goals as goal

pub returns-in-Some : goal.returns-in-Some
returns-in-Some c =
    let there : slice_get c.args.self.now.spaces.items c.args.place ≡ Some c.in-Some.space.now =
    ap (λ (xs : List Space). slice_get xs c.args.place) (sym c.deref.ensures.value)
    ∙ slice_get_read c.deref.result.now _ _ _ refl c.in-Some.ensures.lookup.3.0 c.in-Some.ensures.lookup.1 in
    c.has.ensures ∙ sym (slot_there c.args.self.now.spaces.items c.args.place c.in-Some.space.now c.args.name.now there)

pub returns-in-None : goal.returns-in-None
returns-in-None c =
    let none : slice_get c.args.self.now.spaces.items c.args.place ≡ None =
    ap (λ (xs : List Space). slice_get xs c.args.place) (sym c.deref.ensures.value)
    ∙ slice_get_past c.deref.result.now c.args.place c.in-None.ensures.lookup.3 in
    sym (no_slot_there c.args.self.now.spaces.items c.args.place c.args.name.now none)
