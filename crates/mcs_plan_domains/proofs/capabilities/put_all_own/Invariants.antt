use Rattle.std.proofs.Common.{◌≡◌, drop}
use Rattle.mcs_plan_domains.specs.Boots.{each_put, own_put}
use Rattle.mcs_plan_domains.specs.Pages.{page_of}
use Rattle.mcs_plan_domains.proofs.capabilities.put_all_own.Given as goal

abbrev pub invariant-loop-domain : goal.invariant-loop-domain
invariant-loop-domain l = each_put own_put (page_of l.out) (drop l.domain-index l.domains) ≡ each_put own_put (page_of l.fn.out) l.domains
