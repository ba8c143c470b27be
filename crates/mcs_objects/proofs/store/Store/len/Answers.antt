use Rattle.std.proofs.Common.{arith}
use Rattle.mcs_objects.proofs.RowLaws.{length-objects}
use Rattle.mcs_objects.proofs.store.Store.len.Goals as goal

pub returns : goal.returns
returns g c =
    let s = c.self.inside in
    let n = length-objects s.room s.given 0 s.rows.items s.values.slots c.self.invariant.kept in
    rw (← c.self.view_is) (omega (arith, n, c.len.ensures))
