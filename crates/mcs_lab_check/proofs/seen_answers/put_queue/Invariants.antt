use Rattle.std.proofs.Common.{◌≡◌, ◌++◌}
use Rattle.mcs_book.specs.History.{log_of}
use Rattle.mcs_book.specs.Queues.{queued_in}
use Rattle.mcs_state.specs.Now.{so_far}
use Rattle.mcs_state.specs.Nexts.{behind}
use Rattle.mcs_lab_check.specs.Seen.{names_text}
use Rattle.mcs_lab_check.proofs.seen_answers.put_queue.Given as goal

abbrev pub invariant-loop-thread : goal.invariant-loop-thread
invariant-loop-thread l = l.to ++ names_text (behind l.thread-iterator.left (so_far l.thread-iterator.state.now) l.thread-iterator.at)
    ≡ l.fn.to ++ names_text (queued_in (log_of l.fn.kernel) l.fn.queue)
