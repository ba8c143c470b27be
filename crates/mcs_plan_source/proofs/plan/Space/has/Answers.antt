use Rattle.std.proofs.Common.{◌∙◌}
use Rattle.mcs_plan_source.proofs.SlotNames.{found}
use Rattle.mcs_plan_source.proofs.plan.Space.has.Goals as goal

pub returns : goal.returns
returns c = c.contains_key.ensures ∙ found c.args.name.now c.args.self.now.slots.entries
