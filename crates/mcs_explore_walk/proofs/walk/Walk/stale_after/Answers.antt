use Rattle.std.proofs.Common.{[], ◌≡◌, ◌<◌, ◌++◌, ap, drop, length, List, sym, subst, ◌∙◌, ◌+◌, arith, Some}
use Rattle.std.specs.Option.{IfSome}
use Rattle.std.specs.Prelude.{get_or, slice_get}
use Rattle.std.proofs.lemmas.Option.{slice_get-get_or}
use Rattle.mcs_turns.specs.declared.position.Pick.{Pick}
use Rattle.mcs_turns.specs.Due.{stale_after}
use Rattle.mcs_turns.specs.Turns.{RunState}
use Rattle.mcs_explore_walk.specs.Walks.{left_stale}
use Rattle.mcs_explore_walk.proofs.Picking.{stale-step}
use Rattle.mcs_explore_walk.proofs.walk.Walk.stale_after.Goals as goal

pub loop-other-preserved : goal.loop-other-preserved
loop-other-preserved g c =
    let i = c.loop-other.other in
    let ss : List (List Pick) = c.args.self.now.stale in
    let view : c.self.inside.stale.items ≡ ss = ap (λ (w : RunState). w.stale) c.self.view_is in
    let many : length c.self.inside.stale.items ≡ length ss = ap (λ (l : List (List Pick)). length l) view in
    let low : i < length ss = omega (arith, c.loop-other-test.true, c.len-other-end.ensures, c.self.inside.stale.ok.0, many) in
    let at : slice_get ss i ≡ Some (get_or ss i []) = slice_get-get_or ss i [] low in
    let left : c.in_ok-left.left ≡ left_stale c.args.core.0 c.args.user c.args.picks.now i (get_or ss i []) =
    subst (λ o. IfSome o (λ s. c.in_ok-left.left ≡ left_stale c.args.core.0 c.args.user c.args.picks.now i s)) at c.in_ok-left.ensures in
    c.loop-other.invariant ∙ stale-step c.args.core.0 c.args.user i c.args.picks.now ss c.loop-other.after.items (get_or ss i []) c.in_ok-left.left at left
    ∙ ap (λ xs. xs ++ stale_after c.args.core.0 c.args.user (i + 1) (drop (i + 1) c.args.picks.now) (drop (i + 1) ss)) (sym c.in_ok-push.ensures)
