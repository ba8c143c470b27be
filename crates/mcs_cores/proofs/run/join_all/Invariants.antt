use Rattle.std.proofs.Common.{◌≤◌, length, vec_len, vec_capacity}
use Rattle.mcs_cores.proofs.run.join_all.Given as goal

abbrev pub invariant-loop-handle : goal.invariant-loop-handle
invariant-loop-handle g l = (vec_len l.back ≤ length l.yielded) × (vec_len l.fn.running ≤ vec_capacity l.back)
