use Rattle.std.proofs.Common.{◌≡◌, Some, ap, refl, sym, ◌∙◌}
use Rattle.std.specs.Option.{option_copied_mut}
use Rattle.mcs_objects.specs.Store.{value_at}
use Rattle.mcs_objects.proofs.MapLaws.{shape-written, place-written}
use Rattle.mcs_replies.proofs.RowLaws.{row_stays, field_changes, field_stays}
use Rattle.mcs_replies.proofs.replies.keep_caller.Goals as goal

pub returns-clause-shape : goal.returns-clause-shape
returns-clause-shape c = shape-written c.args.rows.now c.args.reply _

pub returns-clause-there : goal.returns-clause-there
returns-clause-there c = λ x.
    let was : value_at c.args.rows.now c.args.reply ≡ Some c.in-Some.row.now = sym c.get_mut_at.ensures.value ∙ ap option_copied_mut c.in-Some.is in
    row_stays c.args.rows.now c.args.reply x _ (rw was refl)

pub returns-clause-receivers : goal.returns-clause-receivers
returns-clause-receivers c = λ x.
    let was : value_at c.args.rows.now c.args.reply ≡ Some c.in-Some.row.now = sym c.get_mut_at.ensures.value ∙ ap option_copied_mut c.in-Some.is in
    field_stays (λ r. r.receiver) c.args.rows.now c.args.reply x c.in-Some.row.now _ was refl

pub returns-clause-owed : goal.returns-clause-owed
returns-clause-owed c = λ x.
    let was : value_at c.args.rows.now c.args.reply ≡ Some c.in-Some.row.now = sym c.get_mut_at.ensures.value ∙ ap option_copied_mut c.in-Some.is in
    field_changes (λ r. r.caller) c.args.rows.now c.args.reply x _ (rw was refl)

pub returns-clause-places : goal.returns-clause-places
returns-clause-places c = λ x. place-written c.args.rows.now c.args.reply x _
