use Rattle.std.proofs.Common.{rules, ◌≡◌, ◌<◌, length, slice_index_or, arith}
use Rattle.std.proofs.lemmas.List.{length-set}
use Rattle.mcs_queues.specs.Fingers.{FingerRows}
use Rattle.mcs_queues.proofs.FingerRowLaws.{room-kept, kept-open}
use Rattle.mcs_queues.proofs.fingers.Fingers.open.Goals as goal

pub overflow_cast-len : goal.overflow_cast-len
overflow_cast-len c =
    let f : FingerRows = record { rows = c.self.inside.rows.items; places = c.self.inside.places.items } in
    let own : slice_index_or f.places c.args.q.0 0 ≡ 0 = search rules in
    let lt : c.args.q.0 < length f.places = search rules in
    let few = room-kept f c.args.q.0 c.self.invariant.1 lt own in
    let n : c.len.result ≡ length f.rows = search rules in
    search rules

pub push_reserved-requires : goal.push_reserved-requires
push_reserved-requires c =
    let f : FingerRows = record { rows = c.self.inside.rows.items; places = c.self.inside.places.items } in
    let own : slice_index_or f.places c.args.q.0 0 ≡ 0 = search rules in
    let lt : c.args.q.0 < length f.places = search rules in
    omega (arith, room-kept f c.args.q.0 c.self.invariant.1 lt own, c.self.invariant.0, c.self.inside.rows.ok.0)

pub invariant_of-self : goal.invariant_of-self
invariant_of-self c =
    let f : FingerRows = record { rows = c.self.inside.rows.items; places = c.self.inside.places.items } in
    let own : slice_index_or f.places c.args.q.0 0 ≡ 0 = search rules in
    let lt : c.args.q.0 < length f.places = search rules in
    let n : c.len.result ≡ length f.rows = search rules in
    rw (c.push_reserved.ensures.items, n, c.none.ensures) (omega (arith, length-set f.places c.args.q.0 (length f.rows), c.push_reserved.ensures.capacity, c.self.invariant.0), kept-open f c.args.q.0 c.self.invariant.1 lt own)
