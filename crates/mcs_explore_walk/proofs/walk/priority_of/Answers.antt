use Rattle.std.proofs.Common.{◌≡◌, Some, ◌∙◌}
use Rattle.mcs_book.specs.History.{log_of}
use Rattle.mcs_book.specs.Threads.{prio_of}
use Rattle.mcs_explore_walk.proofs.Walking.{ranked}
use Rattle.mcs_explore_walk.proofs.walk.priority_of.Goals as goal

pub returns-in-None : goal.returns-in-None
returns-in-None g c =
    let it : c.priority.result ≡ Some (record { 0 = prio_of (log_of c.args.kernel.now) c.args.thread }) = c.priority.ensures ∙ ranked (log_of c.args.kernel.now) c.requires.core c.args.thread c.requires.enters in
    let none = c.in-None.is in
    absurd cc
