use Rattle.std.proofs.Common.{ap, ◌∙◌, map, slice_get}
use Rattle.mcs_explore_rows.proofs.Naming.{row_items, same_rows, stands, still}
use Rattle.mcs_explore_rows.proofs.interner.RowInterner.add.Goals as goal

pub returns-clause-number : goal.returns-clause-number
returns-clause-number c =
    let at = c.in-Ok.ensures.stored in
    ap (λ n. slice_get (map row_items c.insert_full.new.self.keys) n) c.in_ok-number.ensures
    ∙ stands row_items c.insert_full.new.self.keys c.in-Ok.number at.0 c.args.row.row.items at.1 at.2

pub returns-clause-kept : goal.returns-clause-kept
returns-clause-kept c = λ n r h. still row_items same_rows c.self.inside.rows.keys c.insert_full.new.self.keys c.args.row c.in-Ok.ensures.keys n r (ap (λ l. slice_get l n) c.self.view_is ∙ h)

pub returns-in_err-number-clause-kept : goal.returns-in_err-number-clause-kept
returns-in_err-number-clause-kept c = λ n r h. still row_items same_rows c.self.inside.rows.keys c.insert_full.new.self.keys c.args.row c.in-Ok.ensures.keys n r (ap (λ l. slice_get l n) c.self.view_is ∙ h)
