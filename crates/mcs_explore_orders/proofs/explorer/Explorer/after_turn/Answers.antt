use Rattle.std.specs.Prelude.{◌≡◌, Option, Some, IfNone, IfSome}
use Rattle.std.proofs.Common.{refl, ap, sym, subst, ◌∙◌}
use Rattle.mcs_types.specs.declared.entry.Answer.{Answer}
use Rattle.mcs_turns.specs.Turns.{RunState}
use Rattle.mcs_explore_walk.specs.Walks.{HasNoTurn, last_answer}
use Rattle.mcs_explore_orders.specs.Trails.{Leads}
use Rattle.mcs_explore_orders.specs.Shown.{HasCounted, SeesTurn}
use Rattle.mcs_explore_orders.proofs.Telling.{turn-counted, turn-reported}
use Rattle.mcs_explore_orders.proofs.explorer.Explorer.after_turn.Goals as goal

pub returns-in_err-key-clause-later : goal.returns-in_err-key-clause-later
returns-in_err-key-clause-later g c = rw (← c.self.view_is) (record { search = record { users = refl; boot = refl; exact = c.key.ensures.mode; numbered = c.key.ensures.apart; met = c.key.ensures.kept }; aim = c.see_turn.ensures.aim })

pub returns-clause-later : goal.returns-clause-later
returns-clause-later g c = rw (← c.self.view_is) (record { search = record { users = refl; boot = refl; exact = c.key.ensures.mode; numbered = c.key.ensures.apart; met = c.key.ensures.kept }; aim = c.see_turn.ensures.aim })

pub returns-clause-reported : goal.returns-clause-reported
returns-clause-reported g c =
    let users = c.self.inside.users.now in
    let walk = c.args.walk.value in
    let after_turn = c.turn.new.self in
    let there = c.deref_mut.ensures.value in
    let leads = subst (λ w. Leads users c.args.turn w after_turn) there (subst (λ (o : Option Answer). IfSome o (λ a. Leads users c.args.turn c.deref_mut.result.now after_turn)) c.in-Some.is c.in_ok-answer.ensures.turn) in
    let reported = subst (λ (o : Option Answer). IfSome o (λ a. last_answer after_turn.book ≡ Some a)) c.in-Some.is c.in_ok-answer.ensures.answer in
    let from = c.as_slice.result.now in
    let sees = subst (λ h. SeesTurn g.W.Watch.HasSeen c.self.inside.watch c.see_turn.new.self users c.args.place c.args.turn c.in-Some.answer from h) c.deref-2.ensures c.in_ok-see_turn.ensures.sees in
    let there_sees = subst (λ ps. SeesTurn g.W.Watch.HasSeen c.self.inside.watch c.see_turn.new.self users c.args.place c.args.turn c.in-Some.answer ps after_turn) (c.as_slice.ensures.value ∙ c.in_ok-from.ensures.items ∙ c.places.ensures ∙ ap (λ (x : RunState). x.places) c.deref.ensures) sees in
    rw (← c.self.view_is) (turn-reported (HasCounted g.W.Watch.HasSeen) _ _ users c.args.place c.args.turn walk after_turn c.in-Some.answer leads reported
    (turn-counted g.W.Watch.HasSeen _ _ users c.args.place c.args.turn c.in-Some.answer walk.places after_turn c.saturating_add-self-inside.ensures refl there_sees))

pub returns-in_default-clause-none : goal.returns-in_default-clause-none
returns-in_default-clause-none g c =
    let users = c.self.inside.users.now in
    let none = subst (λ o. IfNone o (HasNoTurn users c.deref_mut.result.now c.args.turn.core c.args.turn.pick)) c.in_default.is c.in_ok-answer.ensures.no_turn in
    rw (← c.self.view_is) (λ h leads. none h (subst (λ w. Leads users c.args.turn w h) (sym c.deref_mut.ensures.value) leads))
