use Rattle.mcs_plan_layout.proofs.Parts.{counted, filled}
use Rattle.mcs_plan_layout.proofs.laid.PlanLayout.fill_all.Goals as goal

pub loop-place-preserved : goal.loop-place-preserved
loop-place-preserved c = (
  counted c.args.self.now.layouts.items c.args.self.now.plan.spaces.items c.loop-place.place c.space-item.result c.deref-space-items.result.now
      c.deref-space-items.ensures.value c.loop-place-test.true c.space-item.is
      c.loop-place.before c.leaves-leaves.result c.loop-place.invariant.0 c.leaves-leaves.ensures,
  filled c.args.self.now.layouts.items c.args.self.now.plan.spaces.items c.loop-place.place c.space-item.result c.deref-space-items.result.now
      c.deref-space-items.ensures.value c.loop-place-test.true c.space-item.is
      c.loop-place.before c.leaves-leaves.result c.args.to.now.items c.loop-place.to.items c.fill.new.to.items c.loop-place.invariant.0 c.leaves-leaves.ensures
      c.loop-place.invariant.1 c.in_ok-fill.ensures,
)
