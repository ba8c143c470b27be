use Rattle.std.proofs.Common.{◌≡◌, ◌<◌, drop}
use Rattle.mcs_plan_source.specs.Capabilities.{bits_after}
use Rattle.mcs_plan_source.proofs.rights.bits_of.Given as goal

abbrev pub invariant-loop-letter : goal.invariant-loop-letter
invariant-loop-letter l = (bits_after l.bits (drop l.letter-index l.letters) ≡ bits_after 0 l.letters) × (l.bits < 16)
