use Rattle.std.proofs.Common.{sym, ap, ◌∙◌}
use borrow.Follows.Closed.{read_of}
use Rattle.std.specs.Option.{ghost_name_of}
use Rattle.mcs_objects.specs.declared.store.Row.{Row}
use Rattle.mcs_objects.specs.Rows.{row_for, objects_of}
use Rattle.mcs_objects.proofs.RowLaws.{store_of, row_value, place-row, placed, value-row, row-for-found, sound-lent, store-written}
use Rattle.mcs_objects.proofs.store.Store.get_mut_at.Goals as goal

pub invariant_of-self-lent : goal.invariant_of-self-lent
invariant_of-self-lent g c _ =
    let s = c.self.inside in
    let has = sym (place-row s.room s.given s.kind c.args.id s.rows.items s.values.slots c.self.invariant.kept) ∙ (rw (← c.self.view_is) at c.requires) in
    let q = placed (row_for s.kind c.args.id s.rows.items) c.args.place has in
    let r : Row = record { serial = q.0; place = c.args.place } in
    let found = row-for-found s.kind c.args.id s.rows.items r q.1 in
    sound-lent s.room s.given _ c.args.id.serial s.rows.items s.values r c.self.invariant found.1

pub returns : goal.returns
returns g c =
    let s = c.self.inside in
    let has = sym (place-row s.room s.given s.kind c.args.id s.rows.items s.values.slots c.self.invariant.kept) ∙ (rw (← c.self.view_is) at c.requires) in
    let q = placed (row_for s.kind c.args.id s.rows.items) c.args.place has in
    let r : Row = record { serial = q.0; place = c.args.place } in
    rw (← c.self.view_is) (
      (λ i. read_of (ghost_name_of c.get_mut.result) (λ w. store-written s.kind s.room s.given c.args.id s.rows.items s.values.slots r w c.self.invariant.kept q.1 i) (store_of s.kind s.room s.given (objects_of s.rows.items s.values.slots))),
      record { writes_back = tt; value = c.get_mut.ensures.value ∙ ap (λ o. row_value o s.values.slots) q.1 ∙ sym (value-row s.room s.given s.kind c.args.id s.rows.items s.values.slots c.self.invariant.kept) },
    )
