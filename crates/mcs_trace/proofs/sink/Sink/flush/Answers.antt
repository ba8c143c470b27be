use Rattle.std.proofs.Common.{refl}
use Rattle.mcs_trace.proofs.Outputs.{Puts-lost}
use Rattle.mcs_trace.proofs.sink.Sink.flush.Goals as goal

pub returns-then-self-clause-puts : goal.returns-then-self-clause-puts
returns-then-self-clause-puts g c = Puts-lost _ _ _ _ refl refl c.if-self.true c.if-self.true
