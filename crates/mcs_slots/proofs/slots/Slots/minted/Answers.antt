use Rattle.std.proofs.Common.{ap, sym, ◌∙◌, Ok, arith}
use Rattle.std.proofs.lemmas.Grind.{common_steps}
use Rattle.std.proofs.lemmas.Result.{err_from_is_err_and}
use Rattle.mcs_slots.proofs.CopyLaws.{mint-err, mint-kind, mint-badged, mint-ok}
use Rattle.mcs_slots.proofs.slots.Slots.minted.Goals as goal

pub returns-in_err-cap : goal.returns-in_err-cap
returns-in_err-cap c =
    let p = err_from_is_err_and c.from_residual.result c.from_residual.ensures.1 in
    rw (p.1, p.2) (sym (mint-err c.args.self.now c.args.source c.args.dest c.args.rights c.args.badge c.in_err-cap.field-0.0 (sym c.in_err-cap.ensures)))

pub returns-then-not-takes_badge : goal.returns-then-not-takes_badge
returns-then-not-takes_badge c = sym (mint-kind c.args.self.now c.args.source c.args.dest c.args.rights c.args.badge c.in_ok-cap.cap (sym c.in_ok-cap.ensures) (sym c.if-not-takes_badge.ensures))

pub returns-then-cap-ne0 : goal.returns-then-cap-ne0
returns-then-cap-ne0 c = sym (mint-badged c.args.self.now c.args.source c.args.dest c.args.rights c.args.badge c.in_ok-cap.cap (sym c.in_ok-cap.ensures) (sym c.if-not-takes_badge.ensures) (grind (arith, common_steps)))

pub returns : goal.returns
returns c = ap Ok c.with_badge.ensures ∙ sym (mint-ok c.args.self.now c.args.source c.args.dest c.args.rights c.args.badge c.in_ok-cap.cap (sym c.in_ok-cap.ensures) (sym c.if-not-takes_badge.ensures) (grind (arith, common_steps)))
