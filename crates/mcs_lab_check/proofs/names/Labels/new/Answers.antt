use Rattle.mcs_lab_check.proofs.GivenTo.{none-indexed}
use Rattle.mcs_lab_check.proofs.names.Labels.new.Goals as goal

pub invariant_of-result : goal.invariant_of-result
invariant_of-result c = none-indexed c.new-2.result c.new-3.result c.new.result.items c.new.ensures.items c.new-2.ensures c.new-3.ensures
