use Rattle.std.proofs.Common.{◌≡◌, List, [], ℕ, ap, ◌∙◌, sym, length, arith, rules}
use Rattle.mcs_seats.specs.Seats.{Seat}
use Rattle.mcs_cores.proofs.Fresh.{new-push}
use Rattle.mcs_cores.proofs.machine.new_seats.Goals as goal

pub loop-core-preserved : goal.loop-core-preserved
loop-core-preserved g c =
    let inv = c.loop-core.invariant in
    let xs : List Seat = c.loop-core.seats.items in
    let len : length xs ≡ c.loop-core.core = omega (arith, inv.count, c.loop-core.seats.ok.0) in
    let is = c.new-seat.ensures ∙ ap (λ (n : ℕ). record { core = record { 0 = n }; calls = [] }) (sym len) in
    record {
      parts = omega (arith, inv.parts, c.split_off.ensures.parts_left);
      amount = omega (arith, inv.amount, c.split_off.ensures.amount_left);
      count = omega (arith, inv.count, c.in-Ok.ensures.len);
      room = search rules;
      fresh = rw c.in-Ok.ensures.items (new-push xs c.new-seat.result inv.fresh is);
    }
