use Rattle.std.proofs.Common.{◌∷◌, List, Some, sym, ap, subst, ◌∙◌, arith}
use Rattle.mcs_types.specs.declared.record.Rec.{Rec}
use Rattle.mcs_types.specs.declared.record.Rec.TheVariants as rec
use Rattle.mcs_state.specs.Now.{Now, so_far, adds, adds_all}
use Rattle.mcs_state.specs.Doing.{Holds}
use Rattle.mcs_ipc.proofs.Deliveries.{given_to, owe-is, may-owe, may-give}
use Rattle.mcs_ipc.proofs.transfer.owe.Goals as goal

pub owes-requires-clause-allowed : goal.owes-requires-clause-allowed
owes-requires-clause-allowed g c = may-owe (so_far c.args.state.now) c.args.reply c.args.caller c.args.receiver c.context_to_lend-context.result c.requires.calling c.context_to_lend-context.ensures

pub owes-requires-clause-room : goal.owes-requires-clause-room
owes-requires-clause-room g c =
    let is = owe-is (so_far c.args.state.now) c.args.reply c.args.caller c.args.receiver c.context_to_lend-context.result c.context_to_lend-context.ensures in
    let room = subst (λ made. Holds made c.args.state.now) is c.requires.room in
    omega (arith, room)

pub holds-requires-clause-allowed : goal.holds-requires-clause-allowed
holds-requires-clause-allowed g c =
    rw c.owes.ensures (may-give (so_far c.args.state.now) c.args.reply c.args.caller c.args.receiver c.in-Some.context c.context_to_lend-context.result c.requires.calling c.is_sound.ensures.sound c.context_to_lend-context.ensures c.in-Some.is)

pub holds-requires-clause-room : goal.holds-requires-clause-room
holds-requires-clause-room g c =
    let is = owe-is (so_far c.args.state.now) c.args.reply c.args.caller c.args.receiver c.context_to_lend-context.result c.context_to_lend-context.ensures ∙ ap (λ o. rec.Owes c.args.reply c.args.caller c.context_to_lend-context.result ∷ given_to c.args.receiver o) c.in-Some.is in
    let room = subst (λ made. Holds made c.args.state.now) is c.requires.room in
    rw c.owes.ensures (omega (arith, room))

pub returns-in-None : goal.returns-in-None
returns-in-None g c =
    let is = owe-is (so_far c.args.state.now) c.args.reply c.args.caller c.args.receiver c.context_to_lend-context.result c.context_to_lend-context.ensures ∙ ap (λ o. rec.Owes c.args.reply c.args.caller c.context_to_lend-context.result ∷ given_to c.args.receiver o) c.in-None.is in
    c.owes.ensures ∙ ap (λ (made : List Rec). adds_all made c.args.state.now) (sym is)

pub returns-in-Some : goal.returns-in-Some
returns-in-Some g c =
    let is = owe-is (so_far c.args.state.now) c.args.reply c.args.caller c.args.receiver c.context_to_lend-context.result c.context_to_lend-context.ensures ∙ ap (λ o. rec.Owes c.args.reply c.args.caller c.context_to_lend-context.result ∷ given_to c.args.receiver o) c.in-Some.is in
    c.holds.ensures ∙ ap (λ (n : Now). adds (rec.Holds c.in-Some.context (Some c.args.receiver)) n) c.owes.ensures ∙ ap (λ (made : List Rec). adds_all made c.args.state.now) (sym is)
