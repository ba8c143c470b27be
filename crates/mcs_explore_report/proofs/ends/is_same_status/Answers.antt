use Rattle.mcs_types.proofs.Same.{told_same}
use Rattle.mcs_explore_report.proofs.SameStanding.{status_tells}
use Rattle.mcs_explore_report.proofs.ends.is_same_status.Goals as goal

pub returns : goal.returns
returns c = told_same status_tells c.args.status c.args.other c.eq.ensures
