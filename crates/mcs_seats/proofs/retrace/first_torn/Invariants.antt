use Rattle.std.proofs.Common.{◌≡◌, map}
use Rattle.mcs_seats.specs.Trails.{trail_of}
use Rattle.mcs_seats.proofs.retrace.first_torn.Given as goal

abbrev pub invariant-loop-at : goal.invariant-loop-at
invariant-loop-at g l = record {
  made : l.retrace ≡ record { book = l.book.book; at = l.at };
  followed : l.followers.items ≡ map (trail_of l.book.book l.at) l.seats.items;
}
