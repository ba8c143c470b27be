use Rattle.std.proofs.Common.{List, ap, sym, subst, ◌∙◌, is_some, arith}
use Rattle.mcs_types.specs.declared.record.Rec.{Rec}
use Rattle.mcs_book.specs.Contexts.{context_of}
use Rattle.mcs_book.proofs.Threads.HoldingLaws.{context_of-holder}
use Rattle.mcs_state.specs.Doing.{Holds}
use Rattle.mcs_state.specs.Now.{so_far, adds_all}
use Rattle.mcs_state.proofs.Passing.{home-stays, home-gone, home-own}
use Rattle.mcs_state.proofs.contexts.go_home.Goals as goal

pub holds-requires-clause-allowed : goal.holds-requires-clause-allowed
holds-requires-clause-allowed g c =
    let R = so_far c.args.state.now in
    let held = home-own R c.args.notification (context_of R c.args.thread) c.in-Some.context (sym c.context_at_home.ensures ∙ c.in-Some.is) in
    ap (λ o. is_some o) (context_of-holder R c.args.thread c.in-Some.context held)

pub holds-requires-clause-room : goal.holds-requires-clause-room
holds-requires-clause-room g c =
    let R = so_far c.args.state.now in
    let room = subst (λ made. Holds made c.args.state.now) (home-gone R c.args.thread c.in-Some.context c.args.notification (sym c.context_at_home.ensures ∙ c.in-Some.is)) c.requires.room in
    omega (arith, room)

pub returns-in-None : goal.returns-in-None
returns-in-None g c =
    let R = so_far c.args.state.now in
    ap (λ (made : List Rec). adds_all made c.args.state.now) (sym (home-stays R c.args.thread c.args.notification (sym c.context_at_home.ensures ∙ c.in-None.is)))

pub returns-in-Some : goal.returns-in-Some
returns-in-Some g c =
    let R = so_far c.args.state.now in
    c.holds.ensures ∙ ap (λ (made : List Rec). adds_all made c.args.state.now) (sym (home-gone R c.args.thread c.in-Some.context c.args.notification (sym c.context_at_home.ensures ∙ c.in-Some.is)))
