use Rattle.std.proofs.Common.{◌≡◌, map, take}
use Rattle.mcs_plan_source.specs.Saying.{said_space}
use Rattle.mcs_plan_layout.specs.Layouts.{most_bits}
use Rattle.mcs_plan_layout.proofs.layouts.bits_within.Given as goal

abbrev pub invariant-loop-index : goal.invariant-loop-index
invariant-loop-index l = l.most ≡ most_bits (map said_space l.spaces) (take l.index (said_space l.space).slots)
