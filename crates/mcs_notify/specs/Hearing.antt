-- Who hears the word of a notification, in the parts in which the code finds it.
use Rattle.std.specs.Prelude.{ℕ, Option, Some, None, option_and_then, option_map}
use Rattle.std.specs.Option.{option_or}
use Rattle.mcs_types.specs.declared.id.ObjId.{ObjId}
use Rattle.mcs_types.specs.declared.record.Queue.{Queue}
use Rattle.mcs_types.specs.declared.record.Queue.TheVariants.{Receivers, Waiters}
use Rattle.mcs_types.specs.declared.record.Mode.TheVariants.{Running}
use Rattle.mcs_types.specs.declared.record.Rec.TheVariants.{Turns, Parts, Heard}
use Rattle.mcs_book.specs.Logs.{Log}
use Rattle.mcs_book.specs.Queues.{queue_of, first_in}
use Rattle.mcs_book.specs.Notifications.{tied_to, pending}
use Rattle.mcs_book.specs.Pieces.{Piece, ◌then◌, say}
use Rattle.mcs_book.specs.Signalling.{wake}
use Rattle.mcs_notify.specs.declared.signals.Hearer.{Hearer}

-- a thread, where it is in a queue of receivers
abbrev pub among_receivers : ObjId → Option Queue → Option Hearer
among_receivers x (Some (Receivers e)) = Some (record { thread = x; queue = Receivers e })
among_receivers x _ = None

-- the thread to which n is bound, where it is in a queue of receivers
abbrev pub bound_receiver : Log → ObjId → Option Hearer
bound_receiver R n = option_and_then (λ x. among_receivers x (queue_of R x)) (tied_to R n)

-- a waiter of n
abbrev pub waiter : ObjId → ObjId → Hearer
waiter n x = record { thread = x; queue = Waiters n }

-- the first waiter of n
abbrev pub first_waiter : Log → ObjId → Option Hearer
first_waiter R n = option_map (waiter n) (first_in R (Waiters n))

-- who hears the next word of n
abbrev pub next_hearer : Log → ObjId → Option Hearer
next_hearer R n = option_or (bound_receiver R n) (first_waiter R n)

-- no thread where a word is pending
abbrev pub unless_pending : Option ℕ → Option Hearer → Option Hearer
unless_pending (Some word) hearer = None
unless_pending None hearer = hearer

-- whom a signal reaches
abbrev pub reached : Log → ObjId → Option Hearer
reached R n = unless_pending (pending R n) (next_hearer R n)

-- a hearer leaves its queue
abbrev pub left_by : Hearer → Piece
left_by h = say (Parts h.thread h.queue)

-- a hearer takes a word of n, leaves its queue, and goes on
unfoldable pub goes_on : ObjId → ℕ → Hearer → Piece
goes_on n word h = say (Heard h.thread n word) then left_by h then say (Turns h.thread Running)

-- a hearer hears the word of n, and takes the context that is homed at n where that is spare
abbrev pub heard_by : ObjId → ℕ → Hearer → Piece
heard_by n word h = wake n h.thread h.queue word
