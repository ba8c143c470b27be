use Rattle.std.proofs.Common.{◌≡◌}
use Rattle.mcs_plan_domains.specs.Boots.{monitors_put}
use Rattle.mcs_plan_domains.specs.Pages.{page_of}
use Rattle.mcs_plan_domains.proofs.capabilities.put_monitors.Given as goal

abbrev pub invariant-loop-core : goal.invariant-loop-core
invariant-loop-core l = page_of l.out ≡ monitors_put (page_of l.fn.out) l.domains l.core
