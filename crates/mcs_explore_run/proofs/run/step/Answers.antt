use Rattle.std.proofs.Common.{IfNone, sym, subst}
use Rattle.mcs_turns.specs.Turns.{IsOver}
use Rattle.mcs_explore_walk.specs.Walks.{HasEachTurn}
use Rattle.mcs_explore_run.proofs.run.step.Goals as goal

pub draw-requires-clause-turns : goal.draw-requires-clause-turns
draw-requires-clause-turns g c = subst (λ ts. HasEachTurn c.args.users.now c.args.walk.now ts) (sym c.deref-3.ensures.value) c.in_ok-turns.ensures.all

pub show_state-requires : goal.show_state-requires
show_state-requires g c = λ over. subst (λ o. IfNone o (IsOver c.args.users.now c.args.walk.now)) c.in_default.is c.draw.ensures.none
