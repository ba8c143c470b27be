use Rattle.std.specs.Prelude.{◌≡◌, ◌+◌, ◌-◌, ◌^◌, min}
use Rattle.std.specs.Int.{from_bool}
use Rattle.std.proofs.Common.{arith, refl, subst, sym}
use Rattle.mcs_explore_walk.specs.Walks.{HasEachTurn}
use Rattle.mcs_explore_orders.specs.Shown.{HasCounted}
use Rattle.mcs_explore_orders.specs.Watching.{Watching}
use Rattle.mcs_explore_orders.proofs.Telling.{state-counted, state-reported}
use Rattle.mcs_explore_orders.proofs.explorer.Explorer.report.Goals as goal

pub is_over-is_over-requires-clause-turns : goal.is_over-is_over-requires-clause-turns
is_over-is_over-requires-clause-turns g c = subst (λ (e : Watching g.row.W.Denot). HasEachTurn e.search.users c.args.walk.now c.args.turns.now) (sym c.self.view_is) c.requires.turns

pub returns-clause-reported : goal.returns-clause-reported
returns-clause-reported g c =
    let sum = c.saturating_add-self-inside.ensures in
    let one = c.from.ensures in
    let ends : c.saturating_add-self-inside.result ≡ min (c.self.inside.ends + from_bool c.is_over-is_over.result) (2 ^ 64 - 1) = omega (arith, sum, one) in
    rw (← c.self.view_is) (state-reported c.see_state.result (HasCounted g.W.Watch.HasSeen) _ _ _ _ c.args.walk.now c.is_over-is_over.result c.is_over-is_over.ensures.over c.is_over-is_over.ensures.goes_on
    (state-counted c.see_state.result g.W.Watch.HasSeen _ _ _ _ _ c.is_over-is_over.result refl ends c.see_state.ensures.sees))
