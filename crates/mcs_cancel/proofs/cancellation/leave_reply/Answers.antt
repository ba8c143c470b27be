use Rattle.std.proofs.Common.{refl, ◌∙◌, subst, arith}
use Rattle.mcs_types.specs.declared.record.Ending.TheVariants.{Cancelled}
use Rattle.mcs_types.specs.declared.record.Rec.TheVariants as rec
use Rattle.mcs_book.proofs.Firm.Laws.{owing-owed}
use Rattle.mcs_book.specs.Pieces.{say, with_any}
use Rattle.mcs_state.specs.Doing.{HasRoomFor}
use Rattle.mcs_state.specs.Now.{so_far}
use Rattle.mcs_cancel.proofs.Leaving.{owing-awaited}
use Rattle.mcs_cancel.proofs.cancellation.leave_reply.Goals as goal

pub voids-topped-requires-clause-allowed : goal.voids-topped-requires-clause-allowed
voids-topped-requires-clause-allowed g c =
    let is = owing-awaited (so_far c.args.state.now) c.args.thread c.status.result c.reply_awaited.result c.requires.there c.requires.stands c.status.ensures c.reply_awaited.ensures ∙ c.in-Some.is in
    owing-owed (so_far c.args.state.now) c.args.thread c.in-Some.reply is

pub voids-topped-requires-clause-room : goal.voids-topped-requires-clause-room
voids-topped-requires-clause-room g c =
    let is = owing-awaited (so_far c.args.state.now) c.args.thread c.status.result c.reply_awaited.result c.requires.there c.requires.stands c.status.ensures c.reply_awaited.ensures ∙ c.in-Some.is in
    let room = subst (λ o. HasRoomFor (with_any o (λ r. say (rec.Void r c.args.thread Cancelled))) c.args.state.now) is c.requires.room in
    omega (arith, room)

pub returns-in-None : goal.returns-in-None
returns-in-None g c =
    let is = owing-awaited (so_far c.args.state.now) c.args.thread c.status.result c.reply_awaited.result c.requires.there c.requires.stands c.status.ensures c.reply_awaited.ensures ∙ c.in-None.is in
    rw is refl

pub returns-in-Some : goal.returns-in-Some
returns-in-Some g c =
    let is = owing-awaited (so_far c.args.state.now) c.args.thread c.status.result c.reply_awaited.result c.requires.there c.requires.stands c.status.ensures c.reply_awaited.ensures ∙ c.in-Some.is in
    rw is c.voids-topped.ensures.void
