use Rattle.std.proofs.Common.{arith}
use Rattle.mcs_types.specs.declared.record.Mode.TheVariants.{Running}
use Rattle.mcs_types.specs.declared.record.Rec.TheVariants as rec
use Rattle.mcs_book.specs.Pieces.{Piece, ◌then◌, say}
use Rattle.mcs_book.proofs.Firm.Cancel.{parted-idle}
use Rattle.mcs_book.proofs.SoundLogs.KeptLaws.{standing-thread}
use Rattle.mcs_state.specs.Now.{so_far}
use Rattle.mcs_state.proofs.Doing.{makes-then}
use Rattle.mcs_notify.specs.Hearing.{left_by, goes_on}
use Rattle.mcs_notify.proofs.signals.go_on.Goals as goal

pub hears-requires-clause-allowed : goal.hears-requires-clause-allowed
hears-requires-clause-allowed g c =
    let h = c.args.hearer.now in
    (standing-thread (so_far c.args.state.now) h.thread h.queue c.is_sound.ensures.sound c.requires.stands, c.requires.pending, c.requires.alone)

pub hears-requires-clause-room : goal.hears-requires-clause-room
unfolding goes_on ◌then◌
hears-requires-clause-room g c = let room = c.requires.room in omega (arith, room)

pub leave-requires-clause-stands : goal.leave-requires-clause-stands
leave-requires-clause-stands g c = rw c.hears.ensures c.requires.stands

pub leave-requires-clause-room : goal.leave-requires-clause-room
unfolding goes_on ◌then◌
leave-requires-clause-room g c = let room = c.requires.room in rw c.hears.ensures (omega (arith, room))

pub turns-requires-clause-allowed : goal.turns-requires-clause-allowed
turns-requires-clause-allowed g c =
    let R = so_far c.args.state.now in
    let h = c.args.hearer.now in
    rw (c.leave.ensures, c.hears.ensures) (standing-thread R h.thread h.queue c.is_sound.ensures.sound c.requires.stands, parted-idle R h.thread h.queue c.is_sound.ensures.sound c.requires.stands)

pub turns-requires-clause-room : goal.turns-requires-clause-room
unfolding goes_on ◌then◌
turns-requires-clause-room g c = let room = c.requires.room in rw (c.leave.ensures, c.hears.ensures) (omega (arith, room))

pub returns : goal.returns
unfolding goes_on
returns g c =
    let h = c.args.hearer.now in
    let heard : Piece = say (rec.Heard h.thread c.args.notification c.args.word) in
    let both = makes-then heard (left_by h) c.args.state.now c.hears.new.self c.leave.new.state c.hears.ensures c.leave.ensures in
    makes-then (heard then left_by h) (say (rec.Turns h.thread Running)) c.args.state.now c.leave.new.state c.turns.new.self both c.turns.ensures
