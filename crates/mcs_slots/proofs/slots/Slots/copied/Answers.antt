use Rattle.std.proofs.Common.{ap, sym, ◌∙◌, Ok}
use Rattle.std.proofs.lemmas.Result.{err_from_is_err_and}
use Rattle.mcs_slots.proofs.CopyLaws.{copy-err, copy-ok}
use Rattle.mcs_slots.proofs.slots.Slots.copied.Goals as goal

pub returns-in_err-cap : goal.returns-in_err-cap
returns-in_err-cap c =
    let p = err_from_is_err_and c.from_residual.result c.from_residual.ensures.1 in
    rw (p.1, p.2) (sym (copy-err c.args.self.now c.args.source c.args.dest c.args.rights c.in_err-cap.field-0.0 (sym c.in_err-cap.ensures)))

pub returns : goal.returns
returns c = ap Ok c.with_mask.ensures ∙ sym (copy-ok c.args.self.now c.args.source c.args.dest c.args.rights c.in_ok-cap.cap (sym c.in_ok-cap.ensures))
