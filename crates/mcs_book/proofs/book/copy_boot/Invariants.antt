use Rattle.std.proofs.Common.{◌≡◌, take, vec_len, vec_capacity}
use Rattle.mcs_book.proofs.book.copy_boot.Given as goal

abbrev pub invariant-loop-line : goal.invariant-loop-line
invariant-loop-line l = record {
  items : l.copy.items ≡ take l.line-index l.boot;
  len : vec_len l.copy ≡ l.line-index;
  capacity : vec_capacity l.copy ≡ l.room;
}
