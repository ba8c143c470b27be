-- A thread leaves what it is blocked on, in the parts in which the code does it.
use Rattle.std.specs.Prelude.{[], Option, Some, None}
use Rattle.mcs_types.specs.declared.id.ObjId.{ObjId}
use Rattle.mcs_types.specs.declared.record.Queue.{Queue}
use Rattle.mcs_types.specs.declared.record.Queue.TheVariants.{Senders, Receivers, Waiters}
use Rattle.mcs_types.specs.declared.record.Status.{Status}
use Rattle.mcs_types.specs.declared.record.Status.TheVariants.{OnReply}
use Rattle.mcs_book.specs.Cancelling.{drop_message, leave}
use Rattle.mcs_book.specs.Messages.{open_of}
use Rattle.mcs_book.specs.Pieces.{Piece}
use Rattle.mcs_book.specs.Queues.{queue_of}

-- what is dropped as x leaves this queue: its open message, where it sends there
abbrev pub drops_from : ObjId → Queue → Piece
drops_from x (Senders e) R = drop_message (open_of R x) R
drops_from x (Receivers e) R = []
drops_from x (Waiters n) R = []

-- x leaves this queue
abbrev pub leaves_queue : ObjId → Queue → Piece
leaves_queue x q R = leave R x (Some q) R

-- the reply object on which a thread of this status waits
abbrev pub reply_awaited : Option Status → Option ObjId
reply_awaited (Some (OnReply r)) = Some r
reply_awaited _ = None

-- x leaves the reply object that owes it
abbrev pub leaves_reply : ObjId → Piece
leaves_reply x R = leave R x None R

-- x leaves what it is blocked on
abbrev pub leaves : ObjId → Piece
leaves x R = leave R x (queue_of R x) R
