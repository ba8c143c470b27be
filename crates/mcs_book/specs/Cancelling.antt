-- Cancelling what a thread is blocked on, and the end of an object (manual: Capability Spaces,
-- deletion; Threads and Execution).
use Rattle.std.specs.Prelude.{Option, Some, None, List, ◌++◌}
use Rattle.mcs_types.specs.declared.id.ObjId.{ObjId}
use Rattle.mcs_types.specs.declared.id.Kind.{Kind}
use Rattle.mcs_types.specs.declared.id.Kind.TheVariants.{CNode, Thread, Endpoint, Notification, Reply, Context}
use Rattle.mcs_types.specs.declared.record.Mode.{Mode}
use Rattle.mcs_types.specs.declared.record.Mode.TheVariants.{Restart, Inactive}
use Rattle.mcs_types.specs.declared.record.Queue.{Queue}
use Rattle.mcs_types.specs.declared.record.Queue.TheVariants.{Senders, Receivers, Waiters}
use Rattle.mcs_types.specs.declared.record.Ending.TheVariants.{Deleted, Cancelled}
use Rattle.mcs_types.specs.declared.record.Rec.TheVariants.{Turns, Parts, Dropped, Void, Holds, Tied, Homed, Closed}
use Rattle.mcs_book.specs.Logs.{Log}
use Rattle.mcs_types.specs.declared.record.Letter.{Letter}
use Rattle.mcs_book.specs.Messages.{open_of}
use Rattle.mcs_book.specs.Queues.{queue_of, queued_in}
use Rattle.mcs_book.specs.Contexts.{context_of, holder_of, home_of, homed_at}
use Rattle.mcs_book.specs.Replies.{owed_by, owing, receiver_with}
use Rattle.mcs_book.specs.Chains.{topped_by}
use Rattle.mcs_book.specs.Notifications.{bound_of, tied_to}
use Rattle.mcs_book.specs.Pieces.{Piece, ◌then◌, nothing, say, with_any, for_each}
use Rattle.mcs_book.specs.Taking.{give_back}

-- an open message is dropped
abbrev pub drop_message : Option Letter → Piece
drop_message None = nothing
drop_message (Some s) = say (Dropped s.number)

-- x leaves the queue, or the reply object, on which it is blocked
abbrev pub leave : Log → ObjId → Option Queue → Piece
leave R x (Some (Senders e)) = drop_message (open_of R x) then say (Parts x (Senders e))
leave R x (Some (Receivers e)) = say (Parts x (Receivers e))
leave R x (Some (Waiters n)) = say (Parts x (Waiters n))
leave R x None = with_any (owing R x) (λ r. say (Void r x Cancelled))

-- x leaves what it is blocked on, and is then in this mode
unfoldable pub cancel : ObjId → Mode → Piece
cancel x mode R = (leave R x (queue_of R x) then say (Turns x mode)) R

-- each of a list leaves what it is blocked on
abbrev pub cancel_all : List ObjId → Mode → Piece
cancel_all xs mode = for_each xs (λ x. cancel x mode)

-- a thread is bound to no notification any more
abbrev pub untie : Option ObjId → Piece
untie x = with_any x (λ x. say (Tied x None))

-- the thread x is bound to no notification any more, if it was bound to n
abbrev pub untie_from : Option ObjId → ObjId → Piece
untie_from n x = with_any n (λ n. say (Tied x None))

-- a context is held by no thread any more
abbrev pub let_go : Option ObjId → Piece
let_go s = with_any s (λ s. say (Holds s None))

-- a context is homed nowhere any more
abbrev pub unhome : Option ObjId → Piece
unhome s = with_any s (λ s. say (Homed s None))

-- the context s is homed nowhere and held by no thread any more
unfoldable pub unbind : ObjId → Piece
unbind s R = (with_any (home_of R s) (λ n. say (Homed s None)) then with_any (holder_of R s) (λ t. say (Holds s None))) R

-- a reply object that is deleted owes no thread any more; at a chain's top it returns the context
unfoldable pub void_deleted : ObjId → Piece
void_deleted r R = with_any (owed_by R r) (λ x. say (Void r x Deleted) then say (Turns x Inactive) then give_back (topped_by R r) x) R

-- what the end of o does to others
abbrev pub release : Log → ObjId → Kind → Piece
release R o CNode = nothing
release R o Endpoint = cancel_all (queued_in R (Senders o) ++ queued_in R (Receivers o)) Restart
release R o Notification = cancel_all (queued_in R (Waiters o)) Restart then untie (tied_to R o) then unhome (homed_at R o)
release R o Reply = with_any (receiver_with R o) (λ x. cancel x Inactive) then void_deleted o
release R o Context = unbind o
release R o Thread = cancel o Inactive then untie_from (bound_of R o) o then let_go (context_of R o)

-- the object o ends
unfoldable pub destroy : ObjId → Piece
destroy o R = (release R o o.kind then say (Closed o)) R
