use Rattle.std.proofs.Common.{◌∷◌, subst, sym}
use Rattle.mcs_types.specs.declared.record.Mode.TheVariants.{Running}
use Rattle.mcs_types.specs.declared.record.Queue.TheVariants.{Receivers}
use Rattle.mcs_types.specs.declared.record.Rec.TheVariants as rec
use Rattle.mcs_book.specs.Logs.{Log}
use Rattle.mcs_book.specs.Messages.{next_message}
use Rattle.mcs_book.specs.Pieces.{Piece, Outcome, ◌then◌, nothing, say}
use Rattle.mcs_book.specs.Taking.{settle}
use Rattle.mcs_book.proofs.Queues.QueueLaws.{first-stands}
use Rattle.mcs_book.proofs.SoundLogs.KeptLaws.{standing-thread}
use Rattle.mcs_state.specs.Now.{so_far}
use Rattle.mcs_state.specs.Doing.{Gives, Holds}
use Rattle.mcs_state.proofs.Doing.{so_far-made, makes-then, room-first, room-next}
use Rattle.mcs_ipc.specs.Rows.{said}
use Rattle.mcs_ipc.proofs.Room.{room-one, room-between}
use Rattle.mcs_ipc.proofs.Facts.{may-send, sent-opens}
use Rattle.mcs_ipc.proofs.Deliveries.{accepted, accepted-made, accepted-room, send-hands, hand-settles, hand-runs}
use Rattle.mcs_ipc.proofs.sends.send_to.Goals as goal

pub reply_with-reply-requires : goal.reply_with-reply-requires
reply_with-reply-requires g c = first-stands (so_far c.args.state.now) (Receivers c.args.way.endpoint) c.args.receiver c.requires.first

pub hands-requires-clause-sent : goal.hands-requires-clause-sent
hands-requires-clause-sent g c = may-send (so_far c.args.state.now) c.args.thread c.args.way.endpoint c.args.way.mode c.args.way.badge c.args.message c.requires.sending

pub hands-requires-clause-taken : goal.hands-requires-clause-taken
hands-requires-clause-taken g c =
    let R : Log = so_far c.args.state.now in
    let stands = first-stands R (Receivers c.args.way.endpoint) c.args.receiver c.requires.first in
    (standing-thread R c.args.receiver (Receivers c.args.way.endpoint) c.is_sound.ensures.sound stands, sent-opens R c.args.thread c.args.way.endpoint c.args.way.mode c.args.way.badge c.args.message c.is_sound.ensures.sound)

pub hands-requires-clause-room : goal.hands-requires-clause-room
hands-requires-clause-room g c =
    let n = c.args.state.now in
    let R : Log = so_far n in
    let p = c.args.receiver in
    let one : Piece = accepted R c.args.way.mode c.args.thread c.args.way.endpoint c.args.way.badge c.args.message p in
    let two : Piece = say (rec.Parts p (Receivers c.args.way.endpoint)) in
    let three : Piece = settle c.args.way.mode c.args.thread p c.reply_with-reply.result nothing in
    let four : Piece = say (rec.Turns p Running) in
    let is = send-hands R c.args.blocks c.args.way.mode c.args.thread c.args.way.endpoint c.args.way.badge c.args.message p c.reply_with-reply.result c.requires.first c.reply_with-reply.ensures in
    let room = subst (λ (o : Outcome). Holds o.records n) is c.requires.room in
    accepted-room n c.args.way.mode c.args.thread c.args.way.endpoint c.args.way.badge c.args.message p (room-first one two n (room-first (one then two) three n (room-first (one then two then three) four n room)))

pub parts-requires-clause-allowed : goal.parts-requires-clause-allowed
parts-requires-clause-allowed g c = rw c.hands.ensures (first-stands (so_far c.args.state.now) (Receivers c.args.way.endpoint) c.args.receiver c.requires.first)

pub parts-requires-clause-room : goal.parts-requires-clause-room
parts-requires-clause-room g c =
    let n = c.args.state.now in
    let R : Log = so_far n in
    let p = c.args.receiver in
    let one : Piece = accepted R c.args.way.mode c.args.thread c.args.way.endpoint c.args.way.badge c.args.message p in
    let two : Piece = say (rec.Parts p (Receivers c.args.way.endpoint)) in
    let three : Piece = settle c.args.way.mode c.args.thread p c.reply_with-reply.result nothing in
    let four : Piece = say (rec.Turns p Running) in
    let is = send-hands R c.args.blocks c.args.way.mode c.args.thread c.args.way.endpoint c.args.way.badge c.args.message p c.reply_with-reply.result c.requires.first c.reply_with-reply.ensures in
    let room = subst (λ (o : Outcome). Holds o.records n) is c.requires.room in
    let made = accepted-made n c.hands.new.self c.args.way.mode c.args.thread c.args.way.endpoint c.args.way.badge c.args.message p c.hands.ensures in
    room-one (rec.Parts p (Receivers c.args.way.endpoint)) c.hands.new.self (room-between one two three n c.hands.new.self made (room-first (one then two then three) four n room))

pub settle-requires-clause-settling : goal.settle-requires-clause-settling
settle-requires-clause-settling g c =
    let R : Log = so_far c.args.state.now in
    let p = c.args.receiver in
    let sent : Log = rec.Sent c.args.thread c.args.way.endpoint c.args.way.mode c.args.way.badge c.args.message ∷ R in
    let ok = may-send R c.args.thread c.args.way.endpoint c.args.way.mode c.args.way.badge c.args.message c.requires.sending in
    let stands = first-stands R (Receivers c.args.way.endpoint) p c.requires.first in
    rw (c.parts.ensures, c.hands.ensures) (hand-settles sent (next_message R) c.args.thread p c.args.way.endpoint (ok, c.is_sound.ensures.sound) c.requires.sending.acting.there c.requires.sending.acting.idle stands c.reply_with-reply.result c.reply_with-reply.ensures)

pub settle-requires-clause-room : goal.settle-requires-clause-room
settle-requires-clause-room g c =
    let n = c.args.state.now in
    let R : Log = so_far n in
    let p = c.args.receiver in
    let one : Piece = accepted R c.args.way.mode c.args.thread c.args.way.endpoint c.args.way.badge c.args.message p in
    let two : Piece = say (rec.Parts p (Receivers c.args.way.endpoint)) in
    let three : Piece = settle c.args.way.mode c.args.thread p c.reply_with-reply.result nothing in
    let four : Piece = say (rec.Turns p Running) in
    let is = send-hands R c.args.blocks c.args.way.mode c.args.thread c.args.way.endpoint c.args.way.badge c.args.message p c.reply_with-reply.result c.requires.first c.reply_with-reply.ensures in
    let room = subst (λ (o : Outcome). Holds o.records n) is c.requires.room in
    let made = accepted-made n c.hands.new.self c.args.way.mode c.args.thread c.args.way.endpoint c.args.way.badge c.args.message p c.hands.ensures in
    room-between (one then two) three four n c.parts.new.self (makes-then one two n c.hands.new.self c.parts.new.self made c.parts.ensures) room

pub turns-requires-clause-allowed : goal.turns-requires-clause-allowed
turns-requires-clause-allowed g c =
    let R : Log = so_far c.args.state.now in
    let p = c.args.receiver in
    let sent : Log = rec.Sent c.args.thread c.args.way.endpoint c.args.way.mode c.args.way.badge c.args.message ∷ R in
    let ok = may-send R c.args.thread c.args.way.endpoint c.args.way.mode c.args.way.badge c.args.message c.requires.sending in
    let stands = first-stands R (Receivers c.args.way.endpoint) p c.requires.first in
    let settling : Piece = settle c.args.way.mode c.args.thread p c.reply_with-reply.result nothing in
    let so = so_far-made settling c.parts.new.self c.settle.new.state c.settle.ensures in
    let runs = hand-runs sent (next_message R) c.args.thread p c.args.way.endpoint (ok, c.is_sound.ensures.sound) c.requires.sending.acting.there c.requires.sending.acting.idle stands c.args.way.mode c.reply_with-reply.result in
    rw so (rw (c.parts.ensures, c.hands.ensures) runs)

pub turns-requires-clause-room : goal.turns-requires-clause-room
turns-requires-clause-room g c =
    let n = c.args.state.now in
    let R : Log = so_far n in
    let p = c.args.receiver in
    let one : Piece = accepted R c.args.way.mode c.args.thread c.args.way.endpoint c.args.way.badge c.args.message p in
    let two : Piece = say (rec.Parts p (Receivers c.args.way.endpoint)) in
    let three : Piece = settle c.args.way.mode c.args.thread p c.reply_with-reply.result nothing in
    let four : Piece = say (rec.Turns p Running) in
    let is = send-hands R c.args.blocks c.args.way.mode c.args.thread c.args.way.endpoint c.args.way.badge c.args.message p c.reply_with-reply.result c.requires.first c.reply_with-reply.ensures in
    let room = subst (λ (o : Outcome). Holds o.records n) is c.requires.room in
    let made = accepted-made n c.hands.new.self c.args.way.mode c.args.thread c.args.way.endpoint c.args.way.badge c.args.message p c.hands.ensures in
    room-one (rec.Turns p Running) c.settle.new.state (room-next (one then two then three) four n c.settle.new.state
    (makes-then (one then two) three n c.parts.new.self c.settle.new.state (makes-then one two n c.hands.new.self c.parts.new.self made c.parts.ensures) c.settle.ensures) room)

pub returns : goal.returns
returns g c =
    let n = c.args.state.now in
    let R : Log = so_far n in
    let p = c.args.receiver in
    let one : Piece = accepted R c.args.way.mode c.args.thread c.args.way.endpoint c.args.way.badge c.args.message p in
    let two : Piece = say (rec.Parts p (Receivers c.args.way.endpoint)) in
    let three : Piece = settle c.args.way.mode c.args.thread p c.reply_with-reply.result nothing in
    let four : Piece = say (rec.Turns p Running) in
    let is = send-hands R c.args.blocks c.args.way.mode c.args.thread c.args.way.endpoint c.args.way.badge c.args.message p c.reply_with-reply.result c.requires.first c.reply_with-reply.ensures in
    let accepts = accepted-made n c.hands.new.self c.args.way.mode c.args.thread c.args.way.endpoint c.args.way.badge c.args.message p c.hands.ensures in
    let made = makes-then (one then two then three) four n c.settle.new.state c.turns.new.self
    (makes-then (one then two) three n c.parts.new.self c.settle.new.state (makes-then one two n c.hands.new.self c.parts.new.self accepts c.parts.ensures) c.settle.ensures) c.turns.ensures in
    subst (λ (o : Outcome). Gives o n (said c.waits.result) c.turns.new.self) (sym is) (record { records = made; answer = c.waits.ensures })
