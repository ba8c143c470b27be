use Rattle.std.proofs.Common.{◌≡◌, Some, ◌∙◌}
use Rattle.mcs_book.specs.Queues.{queue_of}
use Rattle.mcs_state.proofs.Answering.{unqueued}
use Rattle.mcs_state.proofs.Following.{seen}
use Rattle.mcs_state.proofs.state.State.reply_with.Goals as goal

pub unreachable-requires : goal.unreachable-requires
unreachable-requires g c =
    let stands = seen c.self.view_is (λ R. queue_of R c.args.thread ≡ Some c.args.queue) c.requires in
    let no = unqueued _ c.args.thread c.self.invariant.1.sound (c.in-None.ensures ∙ c.self.invariant.1.threads.rows c.args.thread) ∙ stands in
    absurd cc
