use Rattle.std.proofs.Common.{◌≡◌, true, drop}
use Rattle.mcs_plan_domains.specs.Monitors.{arms_put}
use Rattle.mcs_plan_domains.specs.Pages.{page_of}
use Rattle.mcs_plan_domains.proofs.monitors.put_arms.Given as goal

abbrev pub invariant-loop-domain : goal.invariant-loop-domain
invariant-loop-domain l = arms_put (page_of l.out) l.core l.is_first (drop l.domain-index l.domains) ≡ arms_put (page_of l.fn.out) l.core true l.domains
