use Rattle.std.proofs.Common.{refl, ap, sym, ◌∙◌, subst}
use Rattle.mcs_types.specs.declared.entry.Answer.TheVariants.{Done}
use Rattle.mcs_book.specs.Pieces.{Outcome}
use Rattle.mcs_state.specs.Now.{so_far}
use Rattle.mcs_state.specs.Doing.{Gives}
use Rattle.mcs_ipc.specs.Rows.{send_act}
use Rattle.mcs_ipc.proofs.Facts.{dropped-is}
use Rattle.mcs_ipc.proofs.sends.send_over.Goals as goal

pub returns-in-None-2 : goal.returns-in-None-2
returns-in-None-2 g c =
    let R = so_far c.args.state.now in
    let is = ap (λ b. send_act b c.args.mode c.args.thread c.args.endpoint c.args.badge c.args.message R) c.if-blocks.false ∙ dropped-is R c.args.mode c.args.thread c.args.endpoint c.args.badge c.args.message (sym c.first.ensures ∙ c.in-None-2.is) in
    subst (λ (o : Outcome). Gives o c.args.state.now Done c.args.state.now) (sym is) (record { records = refl; answer = refl })
