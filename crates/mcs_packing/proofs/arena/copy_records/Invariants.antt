use Rattle.std.proofs.Common.{◌≡◌, ◌≤◌, take, vec_len, vec_capacity}
use Rattle.mcs_packing.proofs.arena.copy_records.Given as goal

abbrev pub invariant-loop-fact : goal.invariant-loop-fact
invariant-loop-fact l = record {
  items : l.copy.items ≡ take l.fact-index l.records;
  len : vec_len l.copy ≡ l.fact-index;
  capacity : l.room ≤ vec_capacity l.copy;
}
