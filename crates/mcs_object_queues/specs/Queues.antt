-- The queues of endpoints and notifications, and what changes in one of them.
use Rattle.std.specs.Prelude.{ℕ, ◌≡◌, ◌+◌, Bool, true, false, not, cond, ◌&&◌, ◌||◌, ◌==◌, List, [], ◌∷◌, Option, Some, None}
use Rattle.mcs_types.specs.declared.id.ObjId.{ObjId}
use Rattle.mcs_types.specs.declared.id.Kind.{Kind}
use Rattle.mcs_types.specs.declared.id.Prio.{Prio}
use Rattle.mcs_types.specs.declared.id.Kind.TheVariants.{Endpoint, Notification}
use Rattle.mcs_types.specs.declared.record.Queue.{Queue}
use Rattle.mcs_types.specs.declared.record.Queue.TheVariants.{Senders, Receivers, Waiters}
use Rattle.mcs_types.specs.Ids.{same, same_kind}
use Rattle.mcs_book.specs.Growing.{Waiter, insert_behind, threads_in}
use Rattle.mcs_types.specs.Chains.{head_of}
use Rattle.mcs_book.specs.Queues.{same_queue}

-- the object of a queue, and the kind that it must have
abbrev pub queue_object : Queue → ObjId
queue_object (Senders e) = e
queue_object (Receivers e) = e
queue_object (Waiters n) = n

abbrev pub queue_kind : Queue → Kind
queue_kind (Senders e) = Endpoint
queue_kind (Receivers e) = Endpoint
queue_kind (Waiters n) = Notification

-- whether a queue is one of this object
abbrev pub is_queue_of : ObjId → Queue → Bool
is_queue_of x q = same_kind (queue_object q).kind (queue_kind q) && same (queue_object q) x

-- whether objects of a kind have queues
abbrev pub has_queues : Kind → Bool
has_queues Endpoint = true
has_queues Notification = true
has_queues _ = false

-- whether no object can be made: as many are there as may be, or each serial was given
abbrev pub no_room : ℕ → ℕ → Bool
no_room given there = (there == 256) || (given == 4294967295)

-- a count of the kind l after that of the kind k changed: the others are as before
abbrev pub count_after : Kind → Kind → ℕ → ℕ → ℕ
count_after l k count before = cond (same_kind l k) count before

-- one more is counted of a kind, and of every other as many as before
abbrev pub CountsOneMore : (Kind → ℕ) → (Kind → ℕ) → Kind → Type 0
CountsOneMore old new kind = (k : Kind) → new k ≡ count_after k kind (old k + 1) (old k)

-- the queues that were there are, but those of this object
abbrev pub LosesQueues : (Queue → Bool) → (Queue → Bool) → ObjId → Type 0
LosesQueues old new object = (q : Queue) → new q ≡ (not (is_queue_of object q) && old q)

-- who is in the queue k after a thread joined q: the other queues are as before
abbrev pub line_after : Queue → Queue → Waiter → List Waiter → List Waiter
line_after k q w before = cond (same_queue q k) (insert_behind w before) before

-- a thread of a priority joined a queue
abbrev pub JoinsQueue : (Queue → List Waiter) → (Queue → List Waiter) → ObjId → Queue → Prio → Type 0
JoinsQueue old new t into p = (q : Queue) → new q ≡ line_after q into (record { thread = t; priority = p.0 }) (old q)

-- the thread after another
abbrev pub behind : ObjId → List Waiter → Option ObjId
behind t [] = None
behind t (v ∷ vs) = cond (same t v.thread) (head_of (threads_in vs)) (behind t vs)

-- the thread after another, in the queue where it is
abbrev pub behind_in : Option Queue → (Queue → List Waiter) → ObjId → Option ObjId
behind_in None line t = None
behind_in (Some q) line t = behind t (line q)
