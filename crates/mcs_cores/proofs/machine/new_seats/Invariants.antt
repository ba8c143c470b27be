use Rattle.std.proofs.Common.{◌≡◌, ◌≤◌, ◌+◌, vec_len, vec_capacity}
use Rattle.mcs_seats.specs.Seats.{AreNew}
use Rattle.mcs_cores.proofs.machine.new_seats.Given as goal

abbrev pub invariant-loop-core : goal.invariant-loop-core
invariant-loop-core g l = record {
  parts : l.rest.parts + l.core ≡ l.initial.rest.parts;
  amount : l.rest.amount ≡ 0;
  count : vec_len l.seats ≡ l.core;
  room : l.cores ≤ vec_capacity l.seats;
  fresh : AreNew l.seats.items;
}
