use Rattle.std.proofs.Common.{◌≡◌, [], drop, fold}
use Rattle.mcs_book.specs.History.{book_of, with_step}
use Rattle.mcs_kernel.specs.Runs.{full_after}
use Rattle.mcs_kernel.proofs.step_list.replay.Given as goal

abbrev pub invariant-loop-step : goal.invariant-loop-step
invariant-loop-step g l =
    (l.run.taken ≡ l.step-index) × (fold with_step l.run.book (drop l.step-index l.steps) ≡ book_of l.fn.boot l.steps)
    × (full_after l.run.taken l.run.book (drop l.step-index l.steps) ≡ full_after 0 (record { boot = l.fn.boot; lines = [] }) l.steps)
