use Rattle.std.proofs.Common.{subst, sym, refl}
use Rattle.mcs_types.specs.declared.entry.Answer.TheVariants.{Done}
use Rattle.mcs_book.specs.Pieces.{Outcome}
use Rattle.mcs_state.specs.Now.{so_far}
use Rattle.mcs_state.specs.Doing.{Gives, Holds}
use Rattle.mcs_notify.proofs.Rows.{signals}
use Rattle.mcs_ipc.proofs.sends.send_signal.Goals as goal

pub signal-requires-clause-room : goal.signal-requires-clause-room
signal-requires-clause-room g c = subst (λ (o : Outcome). Holds o.records c.args.state.now) (signals (so_far c.args.state.now) c.args.cap) c.requires.room

pub returns : goal.returns
returns g c = subst (λ (o : Outcome). Gives o c.args.state.now Done c.signal.new.state) (sym (signals (so_far c.args.state.now) c.args.cap)) (record { records = c.signal.ensures; answer = refl })
