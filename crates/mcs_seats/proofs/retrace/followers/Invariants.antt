use Rattle.std.proofs.Common.{◌≡◌, ◌≤◌, map, take, vec_len, vec_capacity}
use Rattle.mcs_seats.specs.Trails.{trail_of}
use Rattle.mcs_seats.proofs.retrace.followers.Given as goal

abbrev pub invariant-loop-seat : goal.invariant-loop-seat
invariant-loop-seat g l = record {
  items : l.followers.items ≡ map (trail_of l.book.book 1) (take l.seat-index l.seats.items);
  count : vec_len l.followers ≡ l.seat-index;
  room : vec_len l.seats ≤ vec_capacity l.followers;
}
