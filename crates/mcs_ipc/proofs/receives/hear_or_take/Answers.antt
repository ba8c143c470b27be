use Rattle.std.proofs.Common.{refl, sym, ◌∙◌, subst}
use Rattle.mcs_types.specs.declared.entry.Answer.TheVariants.{Heard}
use Rattle.mcs_book.specs.Pieces.{Outcome}
use Rattle.mcs_state.specs.Doing.{Gives, Holds}
use Rattle.mcs_state.specs.Now.{so_far}
use Rattle.mcs_ipc.proofs.Freeing.{receive-hears, receive-silent, room-word, made-silent}
use Rattle.mcs_ipc.proofs.receives.hear_or_take.Goals as goal

pub take_bound-requires : goal.take_bound-requires
take_bound-requires g c = room-word c.args.state.now c.args.blocks c.args.thread c.args.endpoint c.args.reply c.requires.room

pub take_first-requires-clause-ready : goal.take_first-requires-clause-ready
take_first-requires-clause-ready g c =
    let same = made-silent c.args.state.now c.take_bound.new.state c.args.thread (sym c.take_bound.ensures.word ∙ c.in-None.is) c.take_bound.ensures.heard in
    rw same c.requires.ready

pub take_first-requires-clause-room : goal.take_first-requires-clause-room
take_first-requires-clause-room g c =
    let none = sym c.take_bound.ensures.word ∙ c.in-None.is in
    let same = made-silent c.args.state.now c.take_bound.new.state c.args.thread none c.take_bound.ensures.heard in
    rw same (subst (λ (o : Outcome). Holds o.records c.args.state.now) (receive-silent (so_far c.args.state.now) c.args.blocks c.args.thread c.args.endpoint c.args.reply none) c.requires.room)

pub returns-in-Some : goal.returns-in-Some
returns-in-Some g c =
    let is = receive-hears (so_far c.args.state.now) c.args.blocks c.args.thread c.args.endpoint c.args.reply c.in-Some.word (sym c.take_bound.ensures.word ∙ c.in-Some.is) in
    subst (λ (o : Outcome). Gives o c.args.state.now (Heard c.in-Some.word) c.take_bound.new.state) (sym is) (record { records = c.take_bound.ensures.heard; answer = refl })

pub returns-in-None : goal.returns-in-None
returns-in-None g c =
    let none = sym c.take_bound.ensures.word ∙ c.in-None.is in
    let same = made-silent c.args.state.now c.take_bound.new.state c.args.thread none c.take_bound.ensures.heard in
    subst (λ (o : Outcome). Gives o c.args.state.now c.take_first.new.answer c.take_first.new.state) (sym (receive-silent (so_far c.args.state.now) c.args.blocks c.args.thread c.args.endpoint c.args.reply none))
    (rw (sym same) c.take_first.ensures)
