use Rattle.std.proofs.Common.{List, ◌∷◌, refl, sym, ap, subst, ◌∙◌, arith}
use Rattle.mcs_types.specs.declared.record.Ending.TheVariants.{Deleted}
use Rattle.mcs_types.specs.declared.record.Mode.TheVariants.{Inactive}
use Rattle.mcs_types.specs.declared.record.Rec.{Rec}
use Rattle.mcs_types.specs.declared.record.Rec.TheVariants as rec
use Rattle.mcs_book.specs.Chains.{topped_by}
use Rattle.mcs_book.specs.Pieces.{Piece, ◌then◌, say}
use Rattle.mcs_book.specs.Taking.{give_back}
use Rattle.mcs_book.proofs.SoundLogs.KeptLaws.{owed-there}
use Rattle.mcs_state.specs.Now.{so_far, adds_all}
use Rattle.mcs_state.specs.Doing.{Holds}
use Rattle.mcs_state.proofs.Doing.{makes-then, room-first, room-next}
use Rattle.mcs_cancel.proofs.Lending.{lent-there, still-there}
use Rattle.mcs_cancel.proofs.Voiding.{void-nobody, void-somebody, voided-turns}
use Rattle.mcs_cancel.proofs.destruction.void_deleted.Goals as goal

pub voids-lent-requires-clause-room : goal.voids-lent-requires-clause-room
voids-lent-requires-clause-room g c =
    let R = so_far c.args.state.now in
    let one : Piece = say (rec.Void c.args.reply c.in-Some.caller Deleted) in
    let two : Piece = say (rec.Turns c.in-Some.caller Inactive) in
    let rest : Piece = give_back (topped_by R c.args.reply) c.in-Some.caller in
    let is = void-somebody R c.args.reply c.in-Some.caller (topped_by R c.args.reply) (sym c.owed.ensures ∙ c.in-Some.is) refl in
    let room = subst (λ made. Holds made c.args.state.now) is c.requires.room in
    let first = room-first one two c.args.state.now (room-first (one then two) rest c.args.state.now room) in
    omega (arith, first)

pub turns-requires-clause-allowed : goal.turns-requires-clause-allowed
turns-requires-clause-allowed g c = rw c.voids-lent.ensures.void (voided-turns (so_far c.args.state.now) c.args.reply c.in-Some.caller c.is_sound.ensures.sound (sym c.owed.ensures ∙ c.in-Some.is))

pub turns-requires-clause-room : goal.turns-requires-clause-room
turns-requires-clause-room g c =
    let R = so_far c.args.state.now in
    let one : Piece = say (rec.Void c.args.reply c.in-Some.caller Deleted) in
    let two : Piece = say (rec.Turns c.in-Some.caller Inactive) in
    let rest : Piece = give_back c.voids-lent.result c.in-Some.caller in
    let is = void-somebody R c.args.reply c.in-Some.caller c.voids-lent.result (sym c.owed.ensures ∙ c.in-Some.is) c.voids-lent.ensures.topped in
    let room = subst (λ made. Holds made c.args.state.now) is c.requires.room in
    let next = room-next one two c.args.state.now c.voids-lent.new.self c.voids-lent.ensures.void (room-first (one then two) rest c.args.state.now room) in
    omega (arith, next)

pub give_back-requires-clause-context : goal.give_back-requires-clause-context
give_back-requires-clause-context g c =
    let R = so_far c.args.state.now in
    let there = lent-there R c.args.reply c.voids-lent.result c.voids-lent.ensures.topped in
    rw (c.turns.ensures, c.voids-lent.ensures.void) (still-there R (rec.Turns c.in-Some.caller Inactive ∷ rec.Void c.args.reply c.in-Some.caller Deleted ∷ R) c.voids-lent.result (λ s h. h) there)

pub give_back-requires-clause-thread : goal.give_back-requires-clause-thread
give_back-requires-clause-thread g c = rw (c.turns.ensures, c.voids-lent.ensures.void) ((owed-there (so_far c.args.state.now) c.args.reply c.in-Some.caller c.is_sound.ensures.sound (sym c.owed.ensures ∙ c.in-Some.is)).1)

pub give_back-requires-clause-room : goal.give_back-requires-clause-room
give_back-requires-clause-room g c =
    let R = so_far c.args.state.now in
    let one : Piece = say (rec.Void c.args.reply c.in-Some.caller Deleted) in
    let two : Piece = say (rec.Turns c.in-Some.caller Inactive) in
    let rest : Piece = give_back c.voids-lent.result c.in-Some.caller in
    let is = void-somebody R c.args.reply c.in-Some.caller c.voids-lent.result (sym c.owed.ensures ∙ c.in-Some.is) c.voids-lent.ensures.topped in
    let room = subst (λ made. Holds made c.args.state.now) is c.requires.room in
    room-next (one then two) rest c.args.state.now c.turns.new.self (makes-then one two c.args.state.now c.voids-lent.new.self c.turns.new.self c.voids-lent.ensures.void c.turns.ensures) room

pub returns-in-None : goal.returns-in-None
returns-in-None g c = ap (λ (made : List Rec). adds_all made c.args.state.now) (sym (void-nobody (so_far c.args.state.now) c.args.reply (sym c.owed.ensures ∙ c.in-None.is)))

pub returns-in-Some : goal.returns-in-Some
returns-in-Some g c =
    let R = so_far c.args.state.now in
    let one : Piece = say (rec.Void c.args.reply c.in-Some.caller Deleted) in
    let two : Piece = say (rec.Turns c.in-Some.caller Inactive) in
    let rest : Piece = give_back c.voids-lent.result c.in-Some.caller in
    let is = void-somebody R c.args.reply c.in-Some.caller c.voids-lent.result (sym c.owed.ensures ∙ c.in-Some.is) c.voids-lent.ensures.topped in
    let made = makes-then (one then two) rest c.args.state.now c.turns.new.self c.give_back.new.state (makes-then one two c.args.state.now c.voids-lent.new.self c.turns.new.self c.voids-lent.ensures.void c.turns.ensures) c.give_back.ensures in
    made ∙ ap (λ (made : List Rec). adds_all made c.args.state.now) (sym is)
