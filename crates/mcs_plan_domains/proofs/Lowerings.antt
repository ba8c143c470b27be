-- What plans are that were lowered.
use Rattle.mcs_plan_domains.specs.declared.system.System.{System}
use Rattle.mcs_plan_domains.specs.Channels.{AllLead}
use Rattle.mcs_plan_domains.specs.Joins.{AllJoin}
use Rattle.mcs_plan_domains.specs.Lowered.{IsLowered, IsPlanOf, IsStarted, of_system, started}
use Rattle.mcs_plan_domains.specs.Pages.{Page}

pub of_some_system : (s : System) (p : Page) → AllJoin s → AllLead p s → IsPlanOf s p → IsLowered p
of_some_system s p joins leads plan = of_system s joins leads plan

pub with_starter : (p : Page) → IsStarted p → IsLowered p
with_starter p h = started h
