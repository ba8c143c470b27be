use Rattle.std.proofs.Common.{rules}
use Rattle.mcs_plan_source.proofs.KeepingLines.{empty_in_order}
use Rattle.mcs_plan_source.proofs.Whole.{empty_whole}
use Rattle.mcs_plan_source.proofs.plan.Plan.new.Goals as goal

pub returns-clause-in_order : goal.returns-clause-in_order
returns-clause-in_order c = empty_in_order _ (search rules)

pub returns-clause-whole : goal.returns-clause-whole
returns-clause-whole c = empty_whole _ (search rules)
