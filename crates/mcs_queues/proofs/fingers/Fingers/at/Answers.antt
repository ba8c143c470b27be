use Rattle.mcs_queues.proofs.FingerRowLaws.{own-row}
use Rattle.mcs_queues.proofs.fingers.Fingers.at.Goals as goal
use Rattle.std.proofs.Common.{slice_index_or}

pub returns-clause-own : goal.returns-clause-own
returns-clause-own c = own-row c.row-row.result.now c.args.p.0 (slice_index_or c.args.self.now.places c.args.q.0 0) c.row-row.ensures.shared
