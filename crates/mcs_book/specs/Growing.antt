-- The same answers as recursions that compute as the log grows: what the code does. That they are
-- the public ones is proved.
use Rattle.std.specs.Prelude.{ℕ, Bool, false, cond, ◌||◌, ◌==◌, nat_lt, Option, Some, None, List, [], ◌∷◌, map}
use Rattle.mcs_types.specs.declared.id.ObjId.{ObjId}
use Rattle.mcs_types.specs.declared.record.Queue.{Queue}
use Rattle.mcs_types.specs.declared.record.Rec.TheVariants.{Closed, Prio, Joins, Parts, Sent, Took, Dropped, Owes, Paid, Void, Raised, Heard}
use Rattle.mcs_types.specs.Ids.{same}
use Rattle.mcs_types.specs.Chains.{taken_off, ended}
use Rattle.mcs_book.specs.Logs.{Log}
use Rattle.mcs_types.specs.Ids.{is_just}
use Rattle.mcs_book.specs.Threads.{prio_of}
use Rattle.mcs_book.specs.Queues.{same_queue}
use Rattle.mcs_types.specs.declared.record.Letter.{Letter}
use Rattle.mcs_book.specs.Messages.{next_message}
use Rattle.mcs_types.specs.Words.{with_badge}

-- a thread in a queue, with its priority
pub record Waiter : Type 0 where
  pub thread : ObjId
  pub priority : ℕ

-- after all of its priority or a greater one
abbrev pub insert_behind : Waiter → List Waiter → List Waiter
insert_behind w [] = w ∷ []
insert_behind w (v ∷ vs) = cond (nat_lt v.priority w.priority) (w ∷ v ∷ vs) (v ∷ insert_behind w vs)

-- all but one thread
abbrev pub without : ObjId → List Waiter → List Waiter
without t [] = []
without t (v ∷ vs) = cond (same t v.thread) (without t vs) (v ∷ without t vs)

-- whether a thread is among them
abbrev pub is_among : ObjId → List Waiter → Bool
is_among t [] = false
is_among t (v ∷ vs) = same t v.thread || is_among t vs

-- a thread that is among them queues anew with a priority
abbrev pub shifted : ObjId → ℕ → List Waiter → List Waiter
shifted t p vs = cond (is_among t vs) (insert_behind (record { thread = t; priority = p }) (without t vs)) vs

-- the threads in queue q with their priorities, first to last
abbrev pub growing_queue : Log → Queue → List Waiter
growing_queue [] q = []
growing_queue (Joins t k reply ∷ R) q = cond (same_queue k q) (insert_behind (record { thread = t; priority = prio_of R t }) (growing_queue R q)) (growing_queue R q)
growing_queue (Parts t k ∷ R) q = without t (growing_queue R q)
growing_queue (Prio t p ∷ R) q = shifted t p.0 (growing_queue R q)
growing_queue (_ ∷ R) q = growing_queue R q

-- the threads of a list of waiters
abbrev pub threads_in : List Waiter → List ObjId
threads_in vs = map (λ (v : Waiter). v.thread) vs

-- the pending word of n
abbrev pub growing_word : Log → ObjId → Option ℕ
growing_word [] n = None
growing_word (Raised k badge ∷ R) n = cond (same n k) (Some (with_badge badge.0 (growing_word R n))) (growing_word R n)
growing_word (Heard t k word ∷ R) n = cond (same n k) None (growing_word R n)
growing_word (_ ∷ R) n = growing_word R n

-- a message, unless it has this number
abbrev pub unless_number : ℕ → Option Letter → Option Letter
unless_number m None = None
unless_number m (Some s) = cond (s.number == m) None (Some s)

-- the open message of x
abbrev pub growing_open : Log → ObjId → Option Letter
growing_open [] x = None
growing_open (Sent y e mode badge message ∷ R) x = cond (same y x) (Some (record { number = next_message R; sender = y; endpoint = e; mode = mode; badge = badge; message = message })) (growing_open R x)
growing_open (Took m p ∷ R) x = unless_number m (growing_open R x)
growing_open (Dropped m ∷ R) x = unless_number m (growing_open R x)
growing_open (_ ∷ R) x = growing_open R x

-- the chain of the context s, from the top
abbrev pub growing_chain : Log → ObjId → List ObjId
growing_chain [] s = []
growing_chain (Owes r x brought ∷ R) s = cond (is_just brought s) (r ∷ growing_chain R s) (growing_chain R s)
growing_chain (Paid r x message ∷ R) s = taken_off r (growing_chain R s)
growing_chain (Void r x ending ∷ R) s = ended ending r (growing_chain R s)
growing_chain (Closed o ∷ R) s = cond (same s o) [] (growing_chain R s)
growing_chain (_ ∷ R) s = growing_chain R s
