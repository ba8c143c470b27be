use Rattle.mcs_replies.proofs.OwingLaws.{chained}
use Rattle.mcs_replies.proofs.replies.Replies.are_chained.Goals as goal

pub returns : goal.returns
returns c = rw (← c.self.view_is) (chained _ c.self.invariant)
