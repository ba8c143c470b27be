use Rattle.std.proofs.Common.{◌≡◌, ◌++◌}
use Rattle.mcs_book.specs.History.{log_of}
use Rattle.mcs_book.specs.Queues.{queued_in}
use Rattle.mcs_state.specs.Nexts.{behind}
use Rattle.mcs_state.specs.Now.{so_far}
use Rattle.mcs_explore_rows.specs.Numbers.{id_numbers, list_numbers}
use Rattle.mcs_explore_rows.proofs.exact.put_queue.Given as goal

abbrev pub invariant-loop-thread : goal.invariant-loop-thread
invariant-loop-thread g l = l.fn.row.items ++ list_numbers id_numbers (queued_in (log_of l.fn.kernel) l.fn.queue)
    ≡ l.row.items ++ list_numbers id_numbers (behind l.thread-iterator.left (so_far l.thread-iterator.state.now) l.thread-iterator.at)
