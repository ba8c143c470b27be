use Rattle.std.proofs.Common.{subst, sym, refl}
use Rattle.mcs_types.specs.declared.entry.Answer.TheVariants.{Done}
use Rattle.mcs_book.specs.Pieces.{Outcome}
use Rattle.mcs_state.specs.Now.{so_far}
use Rattle.mcs_state.specs.Doing.{Gives, Holds}
use Rattle.mcs_ipc.proofs.Paying.{pays}
use Rattle.mcs_ipc.proofs.sends.send_reply.Goals as goal

pub pay-requires : goal.pay-requires
pay-requires g c = subst (λ (o : Outcome). Holds o.records c.args.state.now) (pays (so_far c.args.state.now) c.args.reply c.args.message) c.requires

pub returns : goal.returns
returns g c = subst (λ (o : Outcome). Gives o c.args.state.now Done c.pay.new.state) (sym (pays (so_far c.args.state.now) c.args.reply c.args.message)) (record { records = c.pay.ensures; answer = refl })
