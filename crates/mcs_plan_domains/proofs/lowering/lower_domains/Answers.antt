use Rattle.std.proofs.Common.{rules}
use Rattle.mcs_plan_domains.specs.Joins.{AllJoin}
use Rattle.mcs_plan_domains.specs.Pages.{page_of}
use Rattle.mcs_plan_domains.proofs.Lowerings.{of_some_system}
use Rattle.mcs_plan_domains.proofs.lowering.lower_domains.Goals as goal

pub returns-in_ok-lower_system-in-Some : goal.returns-in_ok-lower_system-in-Some
returns-in_ok-lower_system-in-Some c =
    let joins : AllJoin c.in-Some.system = search rules in
    of_some_system c.in-Some.system (page_of c.in_ok-lower_system-in-Some.field-0) joins c.in_ok-lower_system-in-Some.ensures.channels c.in_ok-lower_system-in-Some.ensures.plan
