use Rattle.std.proofs.Common.{◌≡◌, drop}
use Rattle.std.specs.Prelude.{fold}
use Rattle.mcs_explore_rows.specs.Hashing.{digest, mixed}
use Rattle.mcs_explore_rows.proofs.hashed.digest_of.Given as goal

abbrev pub invariant-loop-number : goal.invariant-loop-number
invariant-loop-number l = digest l.row ≡ fold mixed l.digest (drop l.number-index l.row)
