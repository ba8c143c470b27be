use Rattle.std.proofs.Common.{◌≡◌, drop}
use Rattle.mcs_plan_compile.specs.Stepping.{asks}
use Rattle.mcs_plan_compile.proofs.lines.asks.Given as goal

abbrev pub invariant-loop-byte : goal.invariant-loop-byte
invariant-loop-byte l = asks l.text ≡ asks (drop l.byte-index l.text)
