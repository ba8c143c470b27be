use Rattle.std.proofs.Common.{None, refl, ap, sym, ◌∙◌, subst, arith}
use Rattle.mcs_types.specs.declared.record.Queue.TheVariants.{Senders}
use Rattle.mcs_types.specs.declared.record.Rec.TheVariants as rec
use Rattle.mcs_types.specs.declared.entry.Answer.TheVariants.{Waits}
use Rattle.mcs_book.specs.Pieces.{Outcome}
use Rattle.mcs_state.specs.Now.{Now, so_far, adds}
use Rattle.mcs_state.specs.Doing.{Gives, Holds}
use Rattle.mcs_ipc.proofs.Facts.{may-send, alone-is}
use Rattle.mcs_ipc.proofs.sends.send_alone.Goals as goal

pub sends-requires-clause-allowed : goal.sends-requires-clause-allowed
sends-requires-clause-allowed g c = may-send (so_far c.args.state.now) c.args.thread c.args.endpoint c.args.mode c.args.badge c.args.message c.requires.sending

pub sends-requires-clause-room : goal.sends-requires-clause-room
sends-requires-clause-room g c =
    let room = subst (λ (o : Outcome). Holds o.records c.args.state.now) (alone-is (so_far c.args.state.now) c.args.mode c.args.thread c.args.endpoint c.args.badge c.args.message c.requires.none) c.requires.room in
    omega (arith, room)

pub joins-requires-clause-allowed : goal.joins-requires-clause-allowed
joins-requires-clause-allowed g c =
    let s = c.requires.sending in
    rw c.sends.ensures (s.acting.there, s.acting.idle, s.acting.runs, s.endpoint, tt)

pub joins-requires-clause-room : goal.joins-requires-clause-room
joins-requires-clause-room g c =
    let room = subst (λ (o : Outcome). Holds o.records c.args.state.now) (alone-is (so_far c.args.state.now) c.args.mode c.args.thread c.args.endpoint c.args.badge c.args.message c.requires.none) c.requires.room in
    rw c.sends.ensures (omega (arith, room))

pub returns : goal.returns
returns g c =
    subst (λ (o : Outcome). Gives o c.args.state.now Waits c.joins.new.self) (sym (alone-is (so_far c.args.state.now) c.args.mode c.args.thread c.args.endpoint c.args.badge c.args.message c.requires.none))
    (record { records = c.joins.ensures ∙ ap (λ (n : Now). adds (rec.Joins c.args.thread (Senders c.args.endpoint) None) n) c.sends.ensures; answer = refl })
