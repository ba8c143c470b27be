use Rattle.std.specs.Prelude.{◌≡◌, List, drop, take}
use Rattle.std.proofs.Common.{ap, sym, subst, ◌∙◌}
use Rattle.mcs_explore_search.specs.Paths.{Path}
use Rattle.mcs_explore_walk.specs.declared.walk.Turn.{Turn}
use Rattle.mcs_explore_orders.specs.Trails.{IsTrail, Leads, last_point, turns_of}
use Rattle.mcs_explore_orders.proofs.Nexts.{rest-all}
use Rattle.mcs_explore_orders.proofs.Paths.{arrives}
use Rattle.mcs_explore_orders.proofs.path_cache.PathCache.walk_to.Goals as goal

pub returns-clause-walk : goal.returns-clause-walk
returns-clause-walk c =
    let users = c.args.users.now in
    let start = c.args.self.now.start in
    let path = c.args.path.now in
    let now = c.go_along.new.self in
    let at = c.in_ok-at.at in
    let begins : now.start ≡ start = c.go_along.ensures.start in
    let trail = subst (λ g. IsTrail users g now.points) begins c.go_along.ensures.trail in
    let same : c.deref-2.result.now ≡ path = c.deref-2.ensures.value ∙ c.in_ok-turns.ensures in
    let rest : c.deref-3.result.now ≡ path = c.deref-3.ensures.value ∙ c.in_ok-turns.ensures in
    let along : turns_of now.points ≡ take at path = c.in_ok-at.ensures.turns ∙ ap (λ (ts : List Turn). take at ts) same in
    let here : c.deref_mut.result.now ≡ last_point start now.points = c.deref_mut.ensures.value ∙ c.in_ok-walk.ensures.walk ∙ ap (λ g. last_point g now.points) begins in
    arrives users start now.points path at c.follow.new.walk trail along c.requires.path
    (λ h leads. c.in_ok-follow.ensures.path h (subst (λ (ts : List Turn). Path (Leads users) c.deref_mut.result.now ts h) (sym (rest-all c.deref-3.result.now at ∙ ap (λ (ts : List Turn). drop at ts) rest)) (subst (λ g. Path (Leads users) g (drop at path) h) (sym here) leads)))
