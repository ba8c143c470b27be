use Rattle.std.proofs.Common.{◌≡◌, ◌++◌, drop}
use Rattle.mcs_explore_rows.specs.Bytes.{coded}
use Rattle.mcs_explore_rows.proofs.codec.key_of.Given as goal

abbrev pub invariant-loop-number : goal.invariant-loop-number
invariant-loop-number l = coded l.numbers ≡ l.key.items ++ coded (drop l.number-index l.numbers)
