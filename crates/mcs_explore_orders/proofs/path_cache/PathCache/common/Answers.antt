use Rattle.std.specs.Prelude.{◌≡◌, ◌<◌, ◌≤◌, ◌+◌, ◌++◌, Some, List, length, slice_get, take}
use Rattle.std.proofs.Common.{refl, ap, sym, subst, arith, ◌∙◌}
use Rattle.mcs_explore_walk.specs.declared.walk.Turn.{Turn}
use Rattle.mcs_explore_orders.specs.Trails.{Point, Points}
use Rattle.mcs_explore_walk.proofs.Turning.{or-at}
use Rattle.mcs_explore_orders.proofs.Paths.{common-on}
use Rattle.mcs_explore_orders.proofs.path_cache.PathCache.common.Goals as goal

pub loop-index-preserved : goal.loop-index-preserved
loop-index-preserved c =
    let n = c.loop-index.index in
    let at = c.loop-index.at in
    let so_far = c.loop-index.invariant in
    let more = c.loop-index-test.true in
    let path = c.args.path.now in
    let points : c.self.inside.stages.items ≡ c.args.self.now.points = ap (λ (s : Points). s.points) c.self.view_is in
    let long : length c.self.inside.stages.items ≡ length c.args.self.now.points = ap length points in
    let end = c.len-index-end.ensures in
    let few_here : n < length c.self.inside.stages.items = omega (arith, more, end) in
    let few : n + 1 ≤ length c.args.self.now.points = omega (arith, few_here, long) in
    let here = subst (λ ps. slice_get ps n ≡ Some c.index.result.now) points (or-at c.self.inside.stages.items n c.index.result.now few_here ∙ ap (λ p. Some p) (sym c.index.ensures)) in
    let same : c.as_slice-turns.result.now ≡ c.index.result.now.turns = c.as_slice-turns.ensures.value ∙ ap (λ (p : Point). p.turns) c.behind-self.view_is in
    let on = c.if-not-goes_on.ensures.same refl in
    let room = c.if-not-goes_on.ensures.few refl in
    let on_turns = subst (λ (ts : List Turn). take (at + length ts) path ≡ take at path ++ ts) same on in (
      common-on c.args.self.now.points path n at c.index.result.now here on_turns so_far.0 ∙ ap (λ (ts : List Turn). take (at + length ts) path) (sym same),
      room,
      few,
    )
