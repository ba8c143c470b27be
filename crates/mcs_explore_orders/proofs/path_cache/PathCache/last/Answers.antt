use Rattle.std.specs.Prelude.{◌≡◌, ◌-◌, Some, length, option_copied, slice_get}
use Rattle.std.proofs.Common.{ap, sym, subst, ◌∙◌}
use Rattle.mcs_explore_orders.specs.Trails.{Point}
use Rattle.mcs_explore_orders.proofs.Paths.{last-at}
use Rattle.mcs_explore_orders.proofs.path_cache.PathCache.last.Goals as goal

pub returns-in-Some : goal.returns-in-Some
returns-in-Some c =
    let value = c.last.ensures.value in
    let items = c.deref.ensures.value in
    rw (← c.self.view_is) (c.inside.ensures ∙ ap (λ (p : Point). p.run_state) c.stage.view_is ∙ sym (last-at c.self.inside.start c.self.inside.stages.items c.in-Some.stage.now (subst (λ ss. slice_get ss (length ss - 1) ≡ Some c.in-Some.stage.now) items (sym value ∙ ap option_copied c.in-Some.is))))
