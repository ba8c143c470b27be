use Rattle.std.proofs.Common.{◌≡◌, Some, slice_get, refl, ap}
use Rattle.std.proofs.lemmas.Option.{slice_get_read, slice_get_past}
use Rattle.std.proofs.lemmas.Result.{IfErr-weaker}
use Rattle.mcs_plan_source.specs.Saying.{said}
use Rattle.mcs_plan_source.proofs.Places.{same_slots, added_there, added_nowhere, refused_there, on_ok, on_err}
use Rattle.mcs_plan_source.proofs.plan.Plan.add_slot.Goals as goal

pub returns-in_default-clause-added : goal.returns-in_default-clause-added
returns-in_default-clause-added c =
    added_nowhere c.args.self.now c.args.place c.args.name.now c.args.slot (slice_get_past c.args.self.now.spaces.items c.args.place c.in_default.ensures.item.3)

pub returns-clause-added : goal.returns-clause-added
returns-clause-added c =
    let there : slice_get c.args.self.now.spaces.items c.args.place ≡ Some c.in-Some.space.now = slice_get_read c.args.self.now.spaces.items _ _ _ refl c.in-Some.ensures.item.3.0 c.in-Some.ensures.item.1 in
    on_ok c.add.result _ _ (λ h. added_there c.args.self.now c.args.place c.in-Some.space.now c.add.new.self c.args.name.now c.args.slot there h) c.add.ensures.added

pub returns-clause-error : goal.returns-clause-error
returns-clause-error c =
    let there : slice_get c.args.self.now.spaces.items c.args.place ≡ Some c.in-Some.space.now = slice_get_read c.args.self.now.spaces.items _ _ _ refl c.in-Some.ensures.item.3.0 c.in-Some.ensures.item.1 in
    IfErr-weaker c.add.result _ _ (λ w h e p. refused_there c.args.self.now c.args.place c.in-Some.space.now c.args.name.now c.args.slot w e there h p) c.add.ensures.error

pub returns-clause-unchanged : goal.returns-clause-unchanged
returns-clause-unchanged c =
    let there : slice_get c.args.self.now.spaces.items c.args.place ≡ Some c.in-Some.space.now = slice_get_read c.args.self.now.spaces.items _ _ _ refl c.in-Some.ensures.item.3.0 c.in-Some.ensures.item.1 in
    on_err c.add.result _ _ (λ h. ap (λ ss. record (said c.args.self.now) { spaces = ss }) (same_slots c.args.self.now.spaces.items c.args.place c.in-Some.space.now c.add.new.self there h c.add.ensures.radix)) c.add.ensures.unchanged
