use Rattle.std.proofs.Common.{◌∙◌, ap, sym, subst, refl}
use Rattle.mcs_types.specs.declared.record.Queue.TheVariants.{Receivers}
use Rattle.mcs_types.specs.declared.entry.Answer.TheVariants.{Waits, Empty}
use Rattle.mcs_book.specs.Notifications.{bound_of}
use Rattle.mcs_book.specs.Pieces.{Piece, Outcome}
use Rattle.mcs_book.specs.Receiving.{joins_or, stand}
use Rattle.mcs_state.specs.Now.{so_far}
use Rattle.mcs_state.specs.Doing.{Gives, Holds}
use Rattle.mcs_ipc.proofs.Freeing.{joins-waits, joins-empty}
use Rattle.mcs_ipc.proofs.receives.stand.Goals as goal

pub stand-requires-clause-room : goal.stand-requires-clause-room
stand-requires-clause-room g c =
    let R = so_far c.args.state.now in
    let stands : Piece = stand c.args.thread (Receivers c.args.endpoint) c.args.reply (bound_of R c.args.thread) in
    let is = ap (λ b. joins_or b stands R) c.if-blocks.true ∙ joins-waits R stands in
    rw c.bound_of-notification.ensures (subst (λ (o : Outcome). Holds o.records c.args.state.now) is c.requires.room)

pub returns-then-blocks : goal.returns-then-blocks
returns-then-blocks g c =
    let R = so_far c.args.state.now in
    let stands : Piece = stand c.args.thread (Receivers c.args.endpoint) c.args.reply (bound_of R c.args.thread) in
    let is = ap (λ b. joins_or b stands R) c.if-blocks.true ∙ joins-waits R stands in
    let made = rw c.bound_of-notification.ensures at c.stand.ensures in
    subst (λ (o : Outcome). Gives o c.args.state.now Waits c.stand.new.state) (sym is) (record { records = made; answer = refl })

pub returns-else-blocks : goal.returns-else-blocks
returns-else-blocks g c =
    let R = so_far c.args.state.now in
    let stands : Piece = stand c.args.thread (Receivers c.args.endpoint) c.args.reply (bound_of R c.args.thread) in
    let is = ap (λ b. joins_or b stands R) c.if-blocks.false ∙ joins-empty R stands in
    subst (λ (o : Outcome). Gives o c.args.state.now Empty c.args.state.now) (sym is) (record { records = refl; answer = refl })
