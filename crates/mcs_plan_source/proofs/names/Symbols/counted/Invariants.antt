use Rattle.std.proofs.Common.{◌≡◌, ◌≤◌, take}
use Rattle.mcs_plan_source.specs.Naming.{count_of}
use Rattle.mcs_plan_source.proofs.names.Symbols.counted.Given as goal

abbrev pub invariant-loop-index : goal.invariant-loop-index
invariant-loop-index l = (l.count ≡ count_of l.kind (take l.index l.self)) × (l.count ≤ l.index)
