use Rattle.std.proofs.Common.{Option, IfNone, IfSome, Some, ◌≡◌, ◌∙◌, subst}
use Rattle.mcs_types.specs.declared.entry.Answer.{Answer}
use Rattle.mcs_explore_walk.specs.Walks.{HasNoTurn, last_answer}
use Rattle.std.specs.Result.{OnOk}
use Rattle.mcs_explore_orders.specs.Shown.{SeesTurn}
use Rattle.mcs_explore_orders.specs.Trails.{Leads}
use Rattle.mcs_explore_run.proofs.Sights.{on-ok, sees-turn}
use Rattle.mcs_explore_run.proofs.run.make_turn.Goals as goal

pub unreachable-requires : goal.unreachable-requires
unreachable-requires g c =
    let turn = c.args.turn in
    let can = c.requires.can in
    let no = subst (λ o. IfNone o (HasNoTurn c.args.users.now c.args.walk.now turn.core turn.pick)) c.in-None.is c.in_ok-answer.ensures.no_turn in
    no can.0 can.1

pub returns-clause-made : goal.returns-clause-made
returns-clause-made g c =
    let leads = subst (λ (o : Option Answer). IfSome o (λ a. Leads c.args.users.now c.args.turn c.args.walk.now c.turn.new.self)) c.in-Some.is c.in_ok-answer.ensures.turn in
    on-ok c.see_turn.result (record { core = c.args.turn.core; pick = c.args.turn.pick; turn = leads })

pub returns-clause-aim : goal.returns-clause-aim
returns-clause-aim g c = on-ok c.see_turn.result c.see_turn.ensures.aim

pub returns-clause-sees : goal.returns-clause-sees
returns-clause-sees g c =
    let leads = subst (λ (o : Option Answer). IfSome o (λ a. Leads c.args.users.now c.args.turn c.args.walk.now c.turn.new.self)) c.in-Some.is c.in_ok-answer.ensures.turn in
    let answer = subst (λ (o : Option Answer). IfSome o (λ a. last_answer c.turn.new.self.book ≡ Some a)) c.in-Some.is c.in_ok-answer.ensures.answer in
    let sees = subst (λ ps. OnOk c.see_turn.result (SeesTurn g.W.Watch.HasSeen c.args.watch.now c.see_turn.new.self c.args.users.now c.args.number c.args.turn c.in-Some.answer ps c.turn.new.self)) (c.as_slice.ensures.value ∙ c.in_ok-from.ensures.items ∙ c.places.ensures) c.see_turn.ensures.sees in
    sees-turn c.see_turn.result g.W.Watch.HasSeen _ _ _ _ c.args.turn c.in-Some.answer c.args.walk.now c.turn.new.self leads answer sees
