use Rattle.std.proofs.Common.{◌≡◌, drop}
use Rattle.mcs_plan_source.specs.Naming.{name_of}
use Rattle.mcs_plan_source.proofs.names.Symbols.name_of.Given as goal

abbrev pub invariant-loop-index : goal.invariant-loop-index
invariant-loop-index l = name_of l.self l.object ≡ name_of (drop l.index l.self) l.object
