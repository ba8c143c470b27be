use Rattle.std.proofs.Common.{sym, ap, ◌∙◌}
use Rattle.mcs_objects.specs.Rows.{row_for}
use Rattle.mcs_objects.proofs.RowLaws.{row_value, place-row, placed, value-row}
use Rattle.mcs_objects.proofs.store.Store.get_at.Goals as goal

pub returns : goal.returns
returns g c =
    let s = c.self.inside in
    let has = sym (place-row s.room s.given s.kind c.args.id s.rows.items s.values.slots c.self.invariant.kept) ∙ (rw (← c.self.view_is) at c.requires) in
    let q = placed (row_for s.kind c.args.id s.rows.items) c.args.place has in
    rw (← c.self.view_is) (c.get.ensures ∙ ap (λ o. row_value o s.values.slots) q.1 ∙ sym (value-row s.room s.given s.kind c.args.id s.rows.items s.values.slots c.self.invariant.kept))
