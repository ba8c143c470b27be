use Rattle.std.proofs.Common.{true, List, sym, ap, subst, ◌∙◌}
use Rattle.mcs_types.specs.declared.record.Queue.TheVariants.{Senders}
use Rattle.mcs_types.specs.declared.record.Rec.{Rec}
use Rattle.mcs_types.specs.declared.record.Rec.TheVariants as rec
use Rattle.mcs_book.specs.Logs.{Log}
use Rattle.mcs_book.specs.Pieces.{Piece, ◌then◌, say}
use Rattle.mcs_book.specs.Taking.{settle}
use Rattle.mcs_state.specs.Now.{so_far, adds_all}
use Rattle.mcs_state.specs.Doing.{Holds}
use Rattle.mcs_state.proofs.Doing.{makes-then, room-first, room-next}
use Rattle.mcs_ipc.specs.Rows.{resumes}
use Rattle.mcs_ipc.proofs.Facts.{first-there}
use Rattle.mcs_ipc.proofs.Room.{room-one, room-say, room-between}
use Rattle.mcs_ipc.proofs.Deliveries.{numbered-open, take-is, take-settles}
use Rattle.mcs_ipc.proofs.transfer.take.Goals as goal

pub took-message-requires-clause-allowed : goal.took-message-requires-clause-allowed
took-message-requires-clause-allowed g c = (c.requires.ready.acting.there, numbered-open (so_far c.args.state.now) c.args.delivery.sender c.args.delivery.number c.requires.open)

pub took-message-requires-clause-room : goal.took-message-requires-clause-room
took-message-requires-clause-room g c =
    let n = c.args.state.now in
    let d = c.args.delivery in
    let one : Piece = say (rec.Took d.number c.args.thread) in
    let two : Piece = say (rec.Parts d.sender (Senders d.endpoint)) in
    let three : Piece = settle d.mode d.sender c.args.thread c.args.reply (resumes true d.sender) in
    let is = take-is d c.args.thread c.args.reply (so_far n) in
    let room = subst (λ made. Holds made n) is c.requires.room in
    room-say (rec.Took d.number c.args.thread) (say (rec.Parts d.sender (Senders d.endpoint))) n (room-first (one then two) three n room)

pub parts-requires-clause-allowed : goal.parts-requires-clause-allowed
parts-requires-clause-allowed g c =
    let p = first-there (so_far c.args.state.now) (Senders c.args.delivery.endpoint) c.args.delivery.sender c.is_sound.ensures.sound c.requires.first in
    rw c.took-message.ensures.took p.1

pub parts-requires-clause-room : goal.parts-requires-clause-room
parts-requires-clause-room g c =
    let n = c.args.state.now in
    let d = c.args.delivery in
    let one : Piece = say (rec.Took d.number c.args.thread) in
    let two : Piece = say (rec.Parts d.sender (Senders d.endpoint)) in
    let three : Piece = settle d.mode d.sender c.args.thread c.args.reply (resumes true d.sender) in
    let is = take-is d c.args.thread c.args.reply (so_far n) in
    let room = subst (λ made. Holds made n) is c.requires.room in
    room-one (rec.Parts d.sender (Senders d.endpoint)) c.took-message.new.self (room-between one two three n c.took-message.new.self c.took-message.ensures.took room)

pub settle-requires-clause-settling : goal.settle-requires-clause-settling
settle-requires-clause-settling g c =
    let R : Log = so_far c.args.state.now in
    let p = first-there R (Senders c.args.delivery.endpoint) c.args.delivery.sender c.is_sound.ensures.sound c.requires.first in
    rw (c.parts.ensures, c.took-message.ensures.took) (take-settles R c.args.delivery.number c.args.delivery.sender c.args.thread c.args.delivery.endpoint c.args.reply c.is_sound.ensures.sound c.requires.ready p.1)

pub settle-requires-clause-room : goal.settle-requires-clause-room
settle-requires-clause-room g c =
    let n = c.args.state.now in
    let d = c.args.delivery in
    let one : Piece = say (rec.Took d.number c.args.thread) in
    let two : Piece = say (rec.Parts d.sender (Senders d.endpoint)) in
    let three : Piece = settle d.mode d.sender c.args.thread c.args.reply (resumes true d.sender) in
    let is = take-is d c.args.thread c.args.reply (so_far n) in
    let room = subst (λ made. Holds made n) is c.requires.room in
    room-next (one then two) three n c.parts.new.self (makes-then one two n c.took-message.new.self c.parts.new.self c.took-message.ensures.took c.parts.ensures) room

pub returns-clause-taken : goal.returns-clause-taken
returns-clause-taken g c =
    let n = c.args.state.now in
    let d = c.args.delivery in
    let one : Piece = say (rec.Took d.number c.args.thread) in
    let two : Piece = say (rec.Parts d.sender (Senders d.endpoint)) in
    let three : Piece = settle d.mode d.sender c.args.thread c.args.reply (resumes true d.sender) in
    let is = take-is d c.args.thread c.args.reply (so_far n) in
    let made = makes-then (one then two) three n c.parts.new.self c.settle.new.state (makes-then one two n c.took-message.new.self c.parts.new.self c.took-message.ensures.took c.parts.ensures) c.settle.ensures in
    made ∙ ap (λ (made : List Rec). adds_all made n) (sym is)
