use Rattle.std.proofs.Common.{◌≤◌, length, vec_len, vec_capacity}
use Rattle.mcs_cores.proofs.run.start_all.Given as goal

abbrev pub invariant-loop-seat : goal.invariant-loop-seat
invariant-loop-seat g l = (vec_len l.running ≤ length l.yielded) × (vec_len l.fn.seats ≤ vec_capacity l.running)
