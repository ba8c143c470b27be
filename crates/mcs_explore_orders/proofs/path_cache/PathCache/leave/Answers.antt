use Rattle.std.specs.Prelude.{◌≡◌, ◌++◌, ◌∷◌, [], List}
use Rattle.std.specs.Option.{option_to_list}
use Rattle.std.proofs.Common.{ap, sym, subst, ◌∙◌}
use Rattle.mcs_explore_orders.specs.Trails.{IsTrail, Point, last_point}
use Rattle.mcs_explore_orders.proofs.Paths.{last-pushed, trail-front}
use Rattle.mcs_explore_orders.proofs.path_cache.PathCache.leave.Goals as goal

pub returns-in-Some-clause-walk : goal.returns-in-Some-clause-walk
returns-in-Some-clause-walk c =
    let start = c.self.inside.start in
    let left : List Point = c.pop.new.self.items in
    let items : c.self.inside.stages.items ≡ left ++ c.in-Some.stage ∷ [] = subst (λ o. c.self.inside.stages.items ≡ left ++ option_to_list o) c.in-Some.is c.pop.ensures.items in
    rw (← c.self.view_is) (ap (λ (p : Point). p.run_state) c.stage.view_is ∙ sym (ap (λ ps. last_point start ps) items ∙ last-pushed start left c.in-Some.stage))

pub returns-in-Some-clause-trail : goal.returns-in-Some-clause-trail
returns-in-Some-clause-trail c =
    let start = c.self.inside.start in
    let left : List Point = c.pop.new.self.items in
    let items : c.self.inside.stages.items ≡ left ++ c.in-Some.stage ∷ [] = subst (λ o. c.self.inside.stages.items ≡ left ++ option_to_list o) c.in-Some.is c.pop.ensures.items in
    rw (← c.self.view_is) (λ users h. trail-front users start left c.in-Some.stage (subst (λ ps. IsTrail users start ps) items h))
