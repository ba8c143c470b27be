use Rattle.std.proofs.Common.{ap}
use Rattle.mcs_replies.specs.Owing.{chain_in}
use Rattle.mcs_replies.proofs.replies.Replies.add.Goals as goal

pub returns-clause-chains : goal.returns-clause-chains
returns-clause-chains c = λ s. ap (λ v. chain_in v s) c.self.view_is
