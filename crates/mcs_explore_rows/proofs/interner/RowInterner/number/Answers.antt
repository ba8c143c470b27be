use Rattle.std.proofs.Common.{ap, sym, ◌∙◌, slice_get}
use Rattle.mcs_explore_rows.proofs.Naming.{found-at, row_items, ok-at}
use Rattle.mcs_explore_rows.proofs.interner.RowInterner.number.Goals as goal

pub returns-in-Some-clause-number : goal.returns-in-Some-clause-number
returns-in-Some-clause-number c =
    ok-at c.narrow.result c.args.self.now c.args.row.items c.in-Some.number c.narrow.ensures
    (ap (λ l. slice_get l c.in-Some.number) (sym c.self.view_is) ∙ found-at row_items c.self.inside.rows.keys c.args.row.items c.in-Some.number (sym c.get_index_of.ensures.index ∙ c.in-Some.is))
