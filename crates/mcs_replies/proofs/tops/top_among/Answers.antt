use Rattle.std.proofs.Common.{sym}
use Rattle.mcs_replies.proofs.AmongLaws.{top-some, top-none}
use Rattle.mcs_replies.proofs.tops.top_among.Goals as goal

pub returns-in_err-at : goal.returns-in_err-at
returns-in_err-at c = rw c.from_residual.ensures (sym (top-none c.args.context c.args.others.now c.in_err-at.ensures))

pub returns : goal.returns
returns c = sym (top-some c.args.context c.in_ok-at.at _ c.args.others.now c.in_ok-at.ensures)
