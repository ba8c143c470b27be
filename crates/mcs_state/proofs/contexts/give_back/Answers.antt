use Rattle.std.proofs.Common.{List, sym, ap, subst, ◌∙◌, arith}
use Rattle.mcs_types.specs.declared.record.Rec.{Rec}
use Rattle.mcs_book.specs.Taking.{give_back}
use Rattle.mcs_book.proofs.Firm.Laws.{context-none}
use Rattle.mcs_book.proofs.Threads.UserLaws.{if_some}
use Rattle.mcs_state.specs.Now.{so_far, adds_all}
use Rattle.mcs_state.specs.Doing.{Holds}
use Rattle.mcs_state.proofs.Passing.{back-none, back-held, back-gives}
use Rattle.mcs_state.proofs.contexts.give_back.Goals as goal

pub holds-requires-clause-allowed : goal.holds-requires-clause-allowed
holds-requires-clause-allowed g c =
    let R = so_far c.args.state.now in
    (if_some _ c.args.context c.in-Some.context c.requires.context c.in-Some.is, c.requires.thread, context-none R c.args.thread c.is_sound.ensures.sound (sym c.context.ensures.context ∙ c.in-None-context.is))

pub holds-requires-clause-room : goal.holds-requires-clause-room
holds-requires-clause-room g c =
    let R = so_far c.args.state.now in
    let is = ap (λ o. give_back o c.args.thread R) c.in-Some.is ∙ back-gives R c.in-Some.context c.args.thread (sym c.context.ensures.context ∙ c.in-None-context.is) in
    let room = subst (λ made. Holds made c.args.state.now) is c.requires.room in
    omega (arith, room)

pub returns-in-None : goal.returns-in-None
returns-in-None g c =
    let R = so_far c.args.state.now in
    ap (λ (made : List Rec). adds_all made c.args.state.now) (sym (ap (λ o. give_back o c.args.thread R) c.in-None.is ∙ back-none R c.args.thread))

pub returns-in-Some-context : goal.returns-in-Some-context
returns-in-Some-context g c =
    let R = so_far c.args.state.now in
    ap (λ (made : List Rec). adds_all made c.args.state.now) (sym (ap (λ o. give_back o c.args.thread R) c.in-Some.is ∙ back-held R c.in-Some.context c.args.thread _ (sym c.context.ensures.context ∙ c.in-Some-context.is)))

pub returns-in-None-context : goal.returns-in-None-context
returns-in-None-context g c =
    let R = so_far c.args.state.now in
    c.holds.ensures ∙ ap (λ (made : List Rec). adds_all made c.args.state.now) (sym (ap (λ o. give_back o c.args.thread R) c.in-Some.is ∙ back-gives R c.in-Some.context c.args.thread (sym c.context.ensures.context ∙ c.in-None-context.is)))
