use Rattle.mcs_book.specs.Signalling.{wake, spare_at}
use Rattle.mcs_book.specs.Taking.{give_back}
use Rattle.mcs_book.proofs.SoundLogs.KeptLaws.{standing-thread}
use Rattle.mcs_state.specs.Now.{so_far}
use Rattle.mcs_state.proofs.Doing.{so_far-made, makes-then, room-first, room-next}
use Rattle.mcs_notify.specs.Hearing.{goes_on}
use Rattle.mcs_notify.proofs.Hearing.{still-spare, still-hearer}
use Rattle.mcs_notify.proofs.signals.hear.Goals as goal

pub go_on-requires-clause-room : goal.go_on-requires-clause-room
unfolding wake goes_on
go_on-requires-clause-room g c =
    let h = c.args.hearer.now in
    let R = so_far c.args.state.now in
    room-first (goes_on c.args.notification c.args.word h) (give_back (spare_at R c.args.notification) h.thread) c.args.state.now c.requires.room

pub give_back-requires-clause-context : goal.give_back-requires-clause-context
unfolding spare_at
give_back-requires-clause-context g c =
    let R = so_far c.args.state.now in
    let h = c.args.hearer.now in
    let S = so_far-made (goes_on c.args.notification c.args.word h) c.args.state.now c.go_on.new.state c.go_on.ensures in
    rw (S, c.spare_context-context.ensures) (still-spare R c.args.notification c.args.word h c.is_sound.ensures.sound)

pub give_back-requires-clause-thread : goal.give_back-requires-clause-thread
give_back-requires-clause-thread g c =
    let R = so_far c.args.state.now in
    let h = c.args.hearer.now in
    let S = so_far-made (goes_on c.args.notification c.args.word h) c.args.state.now c.go_on.new.state c.go_on.ensures in
    rw S (still-hearer R c.args.notification c.args.word h (standing-thread R h.thread h.queue c.is_sound.ensures.sound c.requires.stands))

pub give_back-requires-clause-room : goal.give_back-requires-clause-room
unfolding wake goes_on spare_at
give_back-requires-clause-room g c =
    let R = so_far c.args.state.now in
    let h = c.args.hearer.now in
    rw c.spare_context-context.ensures
    (room-next (goes_on c.args.notification c.args.word h) (give_back (spare_at R c.args.notification) h.thread) c.args.state.now c.go_on.new.state c.go_on.ensures c.requires.room)

pub returns : goal.returns
unfolding wake goes_on spare_at
returns g c =
    let R = so_far c.args.state.now in
    let h = c.args.hearer.now in
    let given = rw c.spare_context-context.ensures at c.give_back.ensures in
    makes-then (goes_on c.args.notification c.args.word h) (give_back (spare_at R c.args.notification) h.thread) c.args.state.now c.go_on.new.state c.give_back.new.state c.go_on.ensures given
