-- Queues that are emptied as their object ends.
use Rattle.std.specs.Prelude.{◌≡◌, ◌≢◌}
use Rattle.mcs_types.specs.declared.record.Mode.TheVariants.{Restart}
use Rattle.mcs_types.specs.declared.record.Queue.{Queue}
use Rattle.mcs_book.specs.Logs.{Log}
use Rattle.mcs_book.specs.Cancelling.{cancel_all}
use Rattle.mcs_book.specs.Pieces.{Piece}
use Rattle.mcs_book.specs.Queues.{queued_in}

-- those who are in a queue in the log S restart
abbrev pub restarts_all : Log → Queue → Piece
restarts_all S q = cancel_all (queued_in S q) Restart

-- every other queue stayed as it was
abbrev pub KeepsOthers : Queue → Log → Log → Type 0
KeepsOthers q R S = (p : Queue) → p ≢ q → queued_in S p ≡ queued_in R p
