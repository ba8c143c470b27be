use Rattle.std.proofs.Common.{◌≡◌, map, take}
use Rattle.mcs_plan_source.specs.Saying.{said_space}
use Rattle.mcs_plan_layout.specs.Layouts.{layout_among}
use Rattle.mcs_plan_layout.proofs.layouts.layouts_of.Given as goal

abbrev pub invariant-loop-space : goal.invariant-loop-space
invariant-loop-space l = l.layouts.items ≡ map (layout_among (map said_space l.spaces)) (map said_space (take l.space-index l.spaces))
