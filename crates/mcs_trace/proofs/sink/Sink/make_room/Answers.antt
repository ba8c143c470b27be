use Rattle.mcs_trace.proofs.Outputs.{Puts-nil}
use Rattle.mcs_trace.proofs.sink.Sink.make_room.Goals as goal

pub returns-else-len-clause-puts : goal.returns-else-len-clause-puts
returns-else-len-clause-puts g c = Puts-nil _ _
