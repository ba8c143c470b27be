use Rattle.mcs_plan_domains.specs.Joins.{AllJoin}
use Rattle.mcs_plan_domains.proofs.system.System.read_channels.Given as goal

abbrev pub invariant-loop-channel : goal.invariant-loop-channel
invariant-loop-channel l = AllJoin l.self
