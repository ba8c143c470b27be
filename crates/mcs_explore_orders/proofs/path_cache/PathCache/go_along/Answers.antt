use Rattle.std.specs.Prelude.{◌≡◌, ◌≤◌, ◌-◌, ◌++◌, take, drop}
use Rattle.std.proofs.Common.{rules, refl, ap, sym, subst, arith, ◌∙◌, take-add}
use Rattle.mcs_turns.specs.Turns.{RunState}
use Rattle.mcs_explore_search.specs.Paths.{Path}
use Rattle.mcs_explore_orders.specs.Trails.{Leads}
use Rattle.mcs_explore_orders.proofs.Paths.{leads-on, trail-push, trail-take, turns-push}
use Rattle.mcs_explore_orders.proofs.path_cache.PathCache.go_along.Goals as goal

pub loop-at-init : goal.loop-at-init
loop-at-init c =
    let old = c.args.self.now in
    let along = c.common-stages.ensures in
    rw c.keep.ensures (refl, trail-take c.args.users.now old.start old.points c.common-stages.result.0 c.requires.trail, along.same, along.there)

pub step-requires : goal.step-requires
step-requires c =
    let kept = c.loop-at.invariant in
    let now = c.loop-at.self in
    let leads : (s : RunState) × Path (Leads c.args.users.now) now.start c.args.path.now s = (c.requires.path.0, subst (λ g. Path (Leads c.args.users.now) g c.args.path.now c.requires.path.0) (sym kept.0) c.requires.path.1) in
    leads-on c.args.users.now now.start now.points c.args.path.now c.loop-at.at (c.saturating_add-end.result - c.loop-at.at) kept.1 kept.2 leads

pub loop-at-preserved : goal.loop-at-preserved
loop-at-preserved c =
    let kept = c.loop-at.invariant in
    let now = c.loop-at.self in
    let path = c.args.path.now in
    let at = c.loop-at.at in
    let end = c.saturating_add-end.result in
    let turns = take (end - at) (drop at path) in
    let one = c.in_ok-step.ensures.added in
    let further : at ≤ end = search rules in
    let whole : take at path ++ turns ≡ take end path = sym (take-add at (end - at) path) ∙ ap (λ n. take n path) (omega (arith, further)) in
    rw one.added (
      kept.0,
      trail-push c.args.users.now now.start now.points turns one.run_state kept.1 one.leads,
      turns-push now.points (record { turns = turns; run_state = one.run_state }) ∙ ap (λ ts. ts ++ turns) kept.2 ∙ whole,
      search rules,
    )
