use Rattle.std.proofs.Common.{◌≡◌, ◌≤◌, ◌+◌, length}
use Rattle.mcs_seats.specs.Seats.{count_entered_by}
use Rattle.mcs_seats.proofs.audit.audit_seats.Given as goal

abbrev pub invariant-loop-seat : goal.invariant-loop-seat
invariant-loop-seat g l = record {
  parts : l.all.parts ≡ l.fn.kept.parts + length l.yielded;
  amount : l.all.amount ≡ count_entered_by l.yielded;
  bound : l.all.parts ≤ g.G.Ledger.parts;
}
