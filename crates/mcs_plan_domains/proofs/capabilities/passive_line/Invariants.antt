use Rattle.std.proofs.Common.{◌≡◌, drop}
use Rattle.mcs_plan_domains.specs.Boots.{passive_line}
use Rattle.mcs_plan_domains.proofs.capabilities.passive_line.Given as goal

abbrev pub invariant-loop-domain : goal.invariant-loop-domain
invariant-loop-domain l = passive_line l.domains l.core ≡ passive_line (drop l.domain-index l.domains) l.core
