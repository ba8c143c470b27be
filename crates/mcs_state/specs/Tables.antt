-- How the tables agree with the records.
use Rattle.std.specs.Prelude.{ℕ, cond, ◌≡◌, ◌≤◌, ◌+◌, ◌*◌, ◌&&◌, Bool, true, List, length, unwrap_or, Option, Some, None, option_and_then}
use Rattle.mcs_types.specs.declared.id.ObjId.{ObjId}
use Rattle.mcs_types.specs.declared.id.Kind.{Kind}
use Rattle.mcs_types.specs.declared.id.Kind.TheVariants as kind
use Rattle.mcs_types.specs.declared.id.CoreId.{CoreId}
use Rattle.mcs_types.specs.declared.record.Form.{Form}
use Rattle.mcs_types.specs.declared.record.Form.TheVariants.{OnCore}
use Rattle.mcs_types.specs.declared.record.Letter.{Letter}
use Rattle.mcs_types.specs.declared.record.Queue.{Queue}
use Rattle.mcs_types.specs.Limits.{object_limit, record_limit}
use Rattle.mcs_types.specs.Ids.{same_kind}
use Rattle.mcs_book.specs.Logs.{Log, counted}
use Rattle.mcs_book.specs.Objects.{is_alive, form_of, makes_kind, number_of}
use Rattle.mcs_book.specs.Slots.{slot, count_of}
use Rattle.mcs_book.specs.Lookup.{radix_kept}
use Rattle.mcs_book.specs.Queues.{queue_of}
use Rattle.mcs_book.specs.Statuses.{mail_of}
use Rattle.mcs_book.specs.Messages.{next_message, is_sent}
use Rattle.mcs_book.specs.Contexts.{holder_of, home_of, homed_at}
use Rattle.mcs_book.specs.Notifications.{tied_to}
use Rattle.mcs_book.specs.Replies.{receiver_with, owed_by}
use Rattle.mcs_book.specs.Growing.{Waiter, growing_queue, growing_open, growing_chain, growing_word}
use Rattle.mcs_book.specs.Sound.{Sound}
use Rattle.mcs_objects.specs.Places.{kept_at}
use Rattle.mcs_objects.specs.Store.{Shape}
use Rattle.mcs_contexts.specs.Holding.{Holding, counts, core_in, holder_in, home_in}
use Rattle.mcs_replies.specs.Owing.{Owing, counts as reply_counts, is_there as has_reply, receiver_in, owed_in, chain_in}
use Rattle.mcs_notifications.specs.Signals.{Signals, counts as notification_counts, is_there as has_notification, word_in, thread_in, homed_in}
use Rattle.mcs_slots.specs.Pages.{Page, radix_of, slot_at, held}
use Rattle.mcs_threads.specs.Tables.{Table, made, row_of, mail_of as mail_in}
use Rattle.mcs_object_queues.specs.Queues.{queue_object, queue_kind, has_queues}
use Rattle.mcs_state.specs.Saying.{row_said}

-- how many objects of most kinds there may be
abbrev pub ROOM : ℕ
ROOM = object_limit

-- how many records the line in hand may have
abbrev pub HAND : ℕ
HAND = record_limit

-- the threads of each queue, the queue of each thread, whether the object of a queue is there, and
-- how many endpoints and notifications were made and are there
pub record Queueing : Type 0 where
  pub line : Queue → List Waiter
  pub queue : ObjId → Option Queue
  pub has : Queue → Bool
  pub made : Kind → ℕ
  pub there : Kind → ℕ

-- all tables
pub record Tables : Type 0 where
  pub threads : Table
  pub letters : List (Option Letter)
  pub contexts : Holding
  pub queues : Queueing
  pub replies : Owing
  pub notifications : Signals
  pub slots : List Page
  pub sent : ℕ

-- how many objects of a kind were made and are there
abbrev pub shape_said : Kind → Log → Shape
shape_said k R = record { kind = k; room = ROOM; given = counted (makes_kind k) R; there = number_of R k }

-- the threads, their rows and their mail
pub record ThreadsAgree (T : Table) (R : Log) : Type 0 where
  pub made : made T ≡ counted (makes_kind kind.Thread) R
  pub rows : (t : ObjId) → row_of T t ≡ row_said R t
  pub mails : (t : ObjId) → mail_in T t ≡ mail_of R t

-- the open messages, by their senders
abbrev pub LettersAgree : List (Option Letter) → Log → Type 0
LettersAgree kept R = (x : ObjId) → kept_at kind.Thread kept x ≡ growing_open R x

-- the core that a context keeps
abbrev pub core_kept : Form → Option CoreId
core_kept (OnCore core) = Some core
core_kept _ = None

-- the core of a context that is there
abbrev pub core_said : Log → ObjId → Option CoreId
core_said R s = cond (is_alive R s) (option_and_then core_kept (form_of R s)) None

-- the contexts, their cores, their holders and their homes
pub record ContextsAgree (v : Holding) (R : Log) : Type 0 where
  pub shape : counts v ≡ shape_said kind.Context R
  pub cores : (s : ObjId) → core_in v s ≡ core_said R s
  pub holders : (s : ObjId) → holder_in v s ≡ holder_of R s
  pub homes : (s : ObjId) → home_in v s ≡ home_of R s

-- whether an object of this kind is there
abbrev pub is_there : Log → Kind → ObjId → Bool
is_there R k o = same_kind o.kind k && is_alive R o

-- the queues
pub record QueuesAgree (v : Queueing) (R : Log) : Type 0 where
  pub made : (k : Kind) → has_queues k ≡ true → v.made k ≡ counted (makes_kind k) R
  pub there : (k : Kind) → has_queues k ≡ true → v.there k ≡ number_of R k
  pub line : (q : Queue) → v.line q ≡ growing_queue R q
  pub queue : (t : ObjId) → v.queue t ≡ queue_of R t
  pub has : (q : Queue) → v.has q ≡ is_there R (queue_kind q) (queue_object q)

-- the reply objects, the receiver that is queued with each, the caller that it owes, and the chain
-- of each context
pub record RepliesAgree (v : Owing) (R : Log) : Type 0 where
  pub counts : reply_counts v ≡ shape_said kind.Reply R
  pub there : (r : ObjId) → has_reply v r ≡ is_there R kind.Reply r
  pub receivers : (r : ObjId) → receiver_in v r ≡ receiver_with R r
  pub owed : (r : ObjId) → owed_in v r ≡ owed_by R r
  pub chains : (s : ObjId) → chain_in v s ≡ growing_chain R s

-- the pending word of a notification that is there
abbrev pub word_said : Log → ObjId → Option ℕ
word_said R n = cond (is_there R kind.Notification n) (growing_word R n) None

-- the notifications, their pending words, the thread bound to each, and the context that is homed
-- at each
pub record NotificationsAgree (v : Signals) (R : Log) : Type 0 where
  pub counts : notification_counts v ≡ shape_said kind.Notification R
  pub there : (n : ObjId) → has_notification v n ≡ is_there R kind.Notification n
  pub words : (n : ObjId) → word_in v n ≡ word_said R n
  pub threads : (n : ObjId) → thread_in v n ≡ tied_to R n
  pub homed : (n : ObjId) → homed_in v n ≡ homed_at R n

-- the pages of the CNodes: as many as were made, with their radices, what their slots hold, and how
-- many hold a capability to an object
pub record SlotsAgree (pages : List Page) (R : Log) : Type 0 where
  pub made : length pages ≡ counted (makes_kind kind.CNode) R
  pub radices : (c : ObjId) → unwrap_or (radix_of pages c) 0 ≡ radix_kept (form_of R c)
  pub slots : (c : ObjId) (i : ℕ) → slot_at pages c i ≡ slot R c i
  pub counts : (o : ObjId) → held pages o ≡ count_of R o

-- how many messages were sent: as many as this many lines and the records in hand can have
pub record SentAgrees (sent lines : ℕ) (hand R : Log) : Type 0 where
  pub all : sent ≡ next_message R
  pub few : sent ≤ HAND * lines + counted is_sent hand

-- each record was allowed, those in hand are few, and each table agrees with all of them
pub record IsKept (T : Tables) (lines : ℕ) (hand R : Log) : Type 0 where
  pub few : length hand ≤ HAND
  pub sound : Sound R
  pub threads : ThreadsAgree T.threads R
  pub letters : LettersAgree T.letters R
  pub contexts : ContextsAgree T.contexts R
  pub queues : QueuesAgree T.queues R
  pub replies : RepliesAgree T.replies R
  pub notifications : NotificationsAgree T.notifications R
  pub slots : SlotsAgree T.slots R
  pub sent : SentAgrees T.sent lines hand R
