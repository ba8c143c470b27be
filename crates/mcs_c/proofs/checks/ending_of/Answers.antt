use Rattle.mcs_c.proofs.Checked.{checked_fault}
use Rattle.mcs_c.proofs.checks.ending_of.Goals as goal

pub returns-in-Err : goal.returns-in-Err
returns-in-Err c = checked_fault c.args.script.now c.in-Err.fault c.lab_ending.result c.granted.result c.lab_ending.ensures c.granted.ensures.same c.granted.ensures.granted
