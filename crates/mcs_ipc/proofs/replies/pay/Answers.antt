use Rattle.std.proofs.Common.{List, ◌∷◌, refl, sym, ap, subst, ◌∙◌}
use Rattle.mcs_types.specs.declared.record.Mode.TheVariants.{Running}
use Rattle.mcs_types.specs.declared.record.Rec.{Rec}
use Rattle.mcs_types.specs.declared.record.Rec.TheVariants as rec
use Rattle.mcs_book.specs.Chains.{topped_by}
use Rattle.mcs_book.specs.Pieces.{Piece, ◌then◌, say}
use Rattle.mcs_book.specs.Taking.{give_back}
use Rattle.mcs_book.proofs.SoundLogs.KeptLaws.{owed-there}
use Rattle.mcs_state.specs.Now.{so_far, adds_all}
use Rattle.mcs_state.specs.Doing.{Holds}
use Rattle.mcs_state.proofs.Doing.{makes-then, room-first, room-next}
use Rattle.mcs_cancel.proofs.Lending.{lent-there, still-there}
use Rattle.mcs_ipc.proofs.Room.{room-one, room-say, room-between}
use Rattle.mcs_ipc.proofs.Paying.{pay-nobody, pay-somebody, paid-runs}
use Rattle.mcs_ipc.proofs.replies.pay.Goals as goal

pub paid-lent-requires-clause-room : goal.paid-lent-requires-clause-room
paid-lent-requires-clause-room g c =
    let R = so_far c.args.state.now in
    let is = pay-somebody R c.args.reply c.in-Some.caller c.args.message (topped_by R c.args.reply) (sym c.owed.ensures ∙ c.in-Some.is) refl in
    let room = subst (λ made. Holds made c.args.state.now) is c.requires in
    room-say (rec.Paid c.args.reply c.in-Some.caller c.args.message) (say (rec.Turns c.in-Some.caller Running)) c.args.state.now
    (room-first (say (rec.Paid c.args.reply c.in-Some.caller c.args.message) then say (rec.Turns c.in-Some.caller Running)) (give_back (topped_by R c.args.reply) c.in-Some.caller) c.args.state.now room)

pub turns-requires-clause-allowed : goal.turns-requires-clause-allowed
turns-requires-clause-allowed g c = rw c.paid-lent.ensures.paid (paid-runs (so_far c.args.state.now) c.args.reply c.in-Some.caller c.args.message c.is_sound.ensures.sound (sym c.owed.ensures ∙ c.in-Some.is))

pub turns-requires-clause-room : goal.turns-requires-clause-room
turns-requires-clause-room g c =
    let R = so_far c.args.state.now in
    let one : Piece = say (rec.Paid c.args.reply c.in-Some.caller c.args.message) in
    let two : Piece = say (rec.Turns c.in-Some.caller Running) in
    let rest : Piece = give_back c.paid-lent.result c.in-Some.caller in
    let is = pay-somebody R c.args.reply c.in-Some.caller c.args.message c.paid-lent.result (sym c.owed.ensures ∙ c.in-Some.is) c.paid-lent.ensures.topped in
    let room = subst (λ made. Holds made c.args.state.now) is c.requires in
    room-one (rec.Turns c.in-Some.caller Running) c.paid-lent.new.self (room-between one two rest c.args.state.now c.paid-lent.new.self c.paid-lent.ensures.paid room)

pub give_back-requires-clause-context : goal.give_back-requires-clause-context
give_back-requires-clause-context g c =
    let R = so_far c.args.state.now in
    let there = lent-there R c.args.reply c.paid-lent.result c.paid-lent.ensures.topped in
    rw (c.turns.ensures, c.paid-lent.ensures.paid) (still-there R (rec.Turns c.in-Some.caller Running ∷ rec.Paid c.args.reply c.in-Some.caller c.args.message ∷ R) c.paid-lent.result (λ s h. h) there)

pub give_back-requires-clause-thread : goal.give_back-requires-clause-thread
give_back-requires-clause-thread g c = rw (c.turns.ensures, c.paid-lent.ensures.paid) ((owed-there (so_far c.args.state.now) c.args.reply c.in-Some.caller c.is_sound.ensures.sound (sym c.owed.ensures ∙ c.in-Some.is)).1)

pub give_back-requires-clause-room : goal.give_back-requires-clause-room
give_back-requires-clause-room g c =
    let R = so_far c.args.state.now in
    let one : Piece = say (rec.Paid c.args.reply c.in-Some.caller c.args.message) in
    let two : Piece = say (rec.Turns c.in-Some.caller Running) in
    let rest : Piece = give_back c.paid-lent.result c.in-Some.caller in
    let is = pay-somebody R c.args.reply c.in-Some.caller c.args.message c.paid-lent.result (sym c.owed.ensures ∙ c.in-Some.is) c.paid-lent.ensures.topped in
    let room = subst (λ made. Holds made c.args.state.now) is c.requires in
    room-next (one then two) rest c.args.state.now c.turns.new.self (makes-then one two c.args.state.now c.paid-lent.new.self c.turns.new.self c.paid-lent.ensures.paid c.turns.ensures) room

pub returns-in-None : goal.returns-in-None
returns-in-None g c = ap (λ (made : List Rec). adds_all made c.args.state.now) (sym (pay-nobody (so_far c.args.state.now) c.args.reply c.args.message (sym c.owed.ensures ∙ c.in-None.is)))

pub returns-in-Some : goal.returns-in-Some
returns-in-Some g c =
    let R = so_far c.args.state.now in
    let one : Piece = say (rec.Paid c.args.reply c.in-Some.caller c.args.message) in
    let two : Piece = say (rec.Turns c.in-Some.caller Running) in
    let rest : Piece = give_back c.paid-lent.result c.in-Some.caller in
    let is = pay-somebody R c.args.reply c.in-Some.caller c.args.message c.paid-lent.result (sym c.owed.ensures ∙ c.in-Some.is) c.paid-lent.ensures.topped in
    let made = makes-then (one then two) rest c.args.state.now c.turns.new.self c.give_back.new.state (makes-then one two c.args.state.now c.paid-lent.new.self c.turns.new.self c.paid-lent.ensures.paid c.turns.ensures) c.give_back.ensures in
    made ∙ ap (λ (made : List Rec). adds_all made c.args.state.now) (sym is)
