-- How each table follows one more record.
use Rattle.std.specs.Prelude.{ℕ, ◌≡◌, ◌+◌, ◌++◌, ◌∷◌, [], ◌||◌, true, false, List, Option, Some, None, option_map}
use Rattle.mcs_types.specs.declared.id.ObjId.{ObjId}
use Rattle.mcs_types.specs.declared.id.CoreId.{CoreId}
use Rattle.mcs_types.specs.declared.id.Kind.{Kind}
use Rattle.mcs_types.specs.declared.id.Kind.TheVariants as kind
use Rattle.mcs_types.specs.declared.id.Prio.{Prio}
use Rattle.mcs_types.specs.declared.cap.Cap.{Cap}
use Rattle.mcs_types.specs.declared.record.Form.TheVariants as form
use Rattle.mcs_types.specs.declared.record.Ending.{Ending}
use Rattle.mcs_types.specs.declared.record.Ending.TheVariants.{Deleted}
use Rattle.mcs_types.specs.declared.record.Letter.{Letter}
use Rattle.mcs_types.specs.declared.record.Mail.{Mail}
use Rattle.mcs_types.specs.declared.record.Mail.TheVariants.{Message, Word}
use Rattle.mcs_types.specs.declared.record.Queue.{Queue}
use Rattle.mcs_types.specs.declared.record.Queue.TheVariants.{Receivers}
use Rattle.mcs_types.specs.declared.record.Rec.{Rec}
use Rattle.mcs_types.specs.declared.record.Rec.TheVariants as rec
use Rattle.mcs_types.specs.Ids.{value_after, ChangesAt}
use Rattle.mcs_types.specs.Words.{with_badge}
use Rattle.mcs_book.specs.Logs.{Log}
use Rattle.mcs_book.specs.Growing.{without, shifted, growing_open}
use Rattle.mcs_book.specs.Messages.{next_message, letter}
use Rattle.mcs_book.specs.Contexts.{home_of}
use Rattle.mcs_book.specs.Notifications.{bound_of}
use Rattle.mcs_book.specs.Queues.{reply_with}
use Rattle.mcs_book.specs.Statuses.{letter_mail}
use Rattle.mcs_book.specs.Threads.{prio_of}
use Rattle.mcs_objects.specs.Places.{KeepsAt}
use Rattle.mcs_objects.specs.Store.{one_more, IsOneFewer}
use Rattle.mcs_contexts.specs.Holding.{Holding, core_in, holder_in, home_in, counts}
use Rattle.mcs_replies.specs.Owing.{Owing, counts as reply_counts, is_there as has_reply, receiver_in, owed_in, chain_in, SetsOwed, LiesOnTop, EndsDebt}
use Rattle.mcs_notifications.specs.Signals.{Signals, counts as notification_counts, is_there as has_notification, word_in, thread_in, homed_in, SetsWord, SetsThread, SetsHomed}
use Rattle.mcs_slots.specs.Filling.{filled}
use Rattle.mcs_slots.specs.Pages.{Page, ArePages, empty_page}
use Rattle.mcs_threads.specs.declared.row.Block.TheVariants.{Queued, OnReply}
use Rattle.mcs_threads.specs.declared.row.ThreadRow.{ThreadRow}
use Rattle.mcs_threads.specs.Rows.{new_row, with_notification}
use Rattle.mcs_threads.specs.Tables.{Table, made, row_of, mail_of, ChangesRow, SetsRow, SetsMail, SameRows, SameMails}
use Rattle.mcs_object_queues.specs.Queues.{is_queue_of, line_after, count_after, CountsOneMore, LosesQueues}
use Rattle.mcs_state.specs.Tables.{Tables, Queueing}

-- a thread was made
pub record AddsThread (t : ObjId) (maximum : Prio) (root : Cap) (old new : Table) : Type 0 where
  pub made : made new ≡ made old + 1
  pub rows : (x : ObjId) → row_of new x ≡ value_after x t (Some (new_row maximum root)) (row_of old x)
  pub mails : SameMails old new

-- a thread got a mail
pub record Mails (t : ObjId) (mail : Mail) (old new : Table) : Type 0 where
  pub made : made new ≡ made old
  pub rows : SameRows old new
  pub mails : (x : ObjId) → mail_of new x ≡ value_after x t (Some mail) (mail_of old x)

-- a thread is blocked no more, and got a mail
pub record MailsFreed (t : ObjId) (mail : Mail) (old new : Table) : Type 0 where
  pub made : made new ≡ made old
  pub rows : (x : ObjId) → row_of new x ≡ value_after x t (option_map (λ (r : ThreadRow). record r { block = None }) (row_of old x)) (row_of old x)
  pub mails : (x : ObjId) → mail_of new x ≡ value_after x t (Some mail) (mail_of old x)

-- a thread was closed: it has neither a row nor a mail
pub record ClosesThread (t : ObjId) (old new : Table) : Type 0 where
  pub made : made new ≡ made old
  pub rows : SetsRow old new t None
  pub mails : SetsMail old new t None

-- how the threads follow the end of an object
abbrev pub ThreadsFollowClosed : Kind → ObjId → Table → Table → Type 0
ThreadsFollowClosed kind.Thread o old new = ClosesThread o old new
ThreadsFollowClosed _ o old new = new ≡ old

-- how the threads follow a record; R is before it
abbrev pub ThreadsFollow : Log → Rec → Table → Table → Type 0
ThreadsFollow R (rec.Made o (form.Runner maximum root)) old new = AddsThread o maximum root old new
ThreadsFollow R (rec.Made o f) old new = new ≡ old
ThreadsFollow R (rec.Closed o) old new = ThreadsFollowClosed o.kind o old new
ThreadsFollow R (rec.Slot c i cap) old new = new ≡ old
ThreadsFollow R (rec.Prio u p) old new = ChangesRow (λ r. record r { priority = p }) old new u
ThreadsFollow R (rec.Turns u m) old new = ChangesRow (λ r. record r { mode = m }) old new u
ThreadsFollow R (rec.Joins u q reply) old new = ChangesRow (λ r. record r { block = Some (Queued q reply) }) old new u
ThreadsFollow R (rec.Parts u q) old new = ChangesRow (λ r. record r { block = None }) old new u
ThreadsFollow R (rec.Sent x e mode badge message) old new = new ≡ old
ThreadsFollow R (rec.Took m p) old new = (s : Letter) × ((letter R m ≡ Some s) × Mails p (letter_mail s) old new)
ThreadsFollow R (rec.Dropped m) old new = new ≡ old
ThreadsFollow R (rec.Owes d x s) old new = ChangesRow (λ r. record r { block = Some (OnReply d) }) old new x
ThreadsFollow R (rec.Paid d x message) old new = MailsFreed x (Message (record { 0 = 0 }) message) old new
ThreadsFollow R (rec.Void d x how) old new = ChangesRow (λ r. record r { block = None }) old new x
ThreadsFollow R (rec.Holds s t) old new = new ≡ old
ThreadsFollow R (rec.Raised n badge) old new = new ≡ old
ThreadsFollow R (rec.Heard t n word) old new = Mails t (Word word) old new
ThreadsFollow R (rec.Tied t n) old new = ChangesRow (with_notification n) old new t
ThreadsFollow R (rec.Homed s n) old new = new ≡ old

-- the open message of a thread is this one from now on, or none
abbrev pub KeepsLetter : ObjId → Option Letter → List (Option Letter) → List (Option Letter) → Type 0
KeepsLetter x s old new = KeepsAt kind.Thread old new x s

-- the message m, which is open, is no thread's from now on
abbrev pub LosesLetter : Log → ℕ → List (Option Letter) → List (Option Letter) → Type 0
LosesLetter R m old new = (s : Letter) × ((growing_open R s.sender ≡ Some s) × (s.number ≡ m) × KeepsLetter s.sender None old new)

-- how the open messages follow a record
abbrev pub LettersFollow : Log → Rec → List (Option Letter) → List (Option Letter) → Type 0
LettersFollow R (rec.Sent x e mode badge message) old new = KeepsLetter x (Some (record { number = next_message R; sender = x; endpoint = e; mode = mode; badge = badge; message = message })) old new
LettersFollow R (rec.Took m p) old new = LosesLetter R m old new
LettersFollow R (rec.Dropped m) old new = LosesLetter R m old new
LettersFollow R _ old new = new ≡ old

-- a context was made
pub record AddsContext (s : ObjId) (core : CoreId) (old new : Holding) : Type 0 where
  pub counts : counts new ≡ one_more (counts old)
  pub cores : (x : ObjId) → core_in new x ≡ value_after x s (Some core) (core_in old x)
  pub holders : (x : ObjId) → holder_in new x ≡ holder_in old x
  pub homes : (x : ObjId) → home_in new x ≡ home_in old x

-- a context is held by this thread now, or by no thread
pub record GivesContext (s : ObjId) (t : Option ObjId) (old new : Holding) : Type 0 where
  pub counts : counts new ≡ counts old
  pub cores : (x : ObjId) → core_in new x ≡ core_in old x
  pub holders : (x : ObjId) → holder_in new x ≡ value_after x s t (holder_in old x)
  pub homes : (x : ObjId) → home_in new x ≡ home_in old x

-- a context is homed at this notification now, or nowhere
pub record HomesContext (s : ObjId) (n : Option ObjId) (old new : Holding) : Type 0 where
  pub counts : counts new ≡ counts old
  pub cores : (x : ObjId) → core_in new x ≡ core_in old x
  pub holders : (x : ObjId) → holder_in new x ≡ holder_in old x
  pub homes : (x : ObjId) → home_in new x ≡ value_after x s n (home_in old x)

-- a context was closed
pub record ClosesContext (s : ObjId) (old new : Holding) : Type 0 where
  pub counts : IsOneFewer (counts old) (counts new)
  pub cores : ChangesAt (core_in old) (core_in new) s None
  pub holders : (x : ObjId) → holder_in new x ≡ holder_in old x
  pub homes : (x : ObjId) → home_in new x ≡ home_in old x

-- how the contexts follow the end of an object
abbrev pub ContextsFollowClosed : Kind → ObjId → Holding → Holding → Type 0
ContextsFollowClosed kind.Context o old new = ClosesContext o old new
ContextsFollowClosed _ o old new = new ≡ old

-- how the contexts follow a record
abbrev pub ContextsFollow : Rec → Holding → Holding → Type 0
ContextsFollow (rec.Made o (form.OnCore core)) old new = AddsContext o core old new
ContextsFollow (rec.Closed o) old new = ContextsFollowClosed o.kind o old new
ContextsFollow (rec.Holds s t) old new = GivesContext s t old new
ContextsFollow (rec.Homed s n) old new = HomesContext s n old new
ContextsFollow _ old new = new ≡ old

-- an endpoint or a notification was made
pub record OpensQueues (o : ObjId) (old new : Queueing) : Type 0 where
  pub line : (q : Queue) → new.line q ≡ old.line q
  pub queue : (t : ObjId) → new.queue t ≡ old.queue t
  pub has : (q : Queue) → new.has q ≡ (is_queue_of o q || old.has q)
  pub made : (k : Kind) → new.made k ≡ count_after k o.kind (old.made k + 1) (old.made k)
  pub there : (k : Kind) → new.there k ≡ count_after k o.kind (old.there k + 1) (old.there k)

-- the objects of the queues are those that were there
pub record SameObjects (old new : Queueing) : Type 0 where
  pub has : (q : Queue) → new.has q ≡ old.has q
  pub made : (k : Kind) → new.made k ≡ old.made k
  pub there : (k : Kind) → new.there k ≡ old.there k

-- a thread is in a queue from now on
pub record JoinsQueue (u : ObjId) (p : ℕ) (q : Queue) (old new : Queueing) : Type 0 where
  pub line : (k : Queue) → new.line k ≡ line_after k q (record { thread = u; priority = p }) (old.line k)
  pub queue : (t : ObjId) → new.queue t ≡ value_after t u (Some q) (old.queue t)
  pub objects : SameObjects old new

-- a thread is in no queue any more
pub record PartsQueue (u : ObjId) (old new : Queueing) : Type 0 where
  pub line : (k : Queue) → new.line k ≡ without u (old.line k)
  pub queue : (t : ObjId) → new.queue t ≡ value_after t u None (old.queue t)
  pub objects : SameObjects old new

-- a thread queues anew with another priority
pub record ShiftsInQueue (u : ObjId) (p : ℕ) (old new : Queueing) : Type 0 where
  pub line : (k : Queue) → new.line k ≡ shifted u p (old.line k)
  pub queue : (t : ObjId) → new.queue t ≡ old.queue t
  pub objects : SameObjects old new

-- how the queues follow the making of an object
abbrev pub QueuesFollowMade : Kind → ObjId → Queueing → Queueing → Type 0
QueuesFollowMade kind.Endpoint o old new = OpensQueues o old new
QueuesFollowMade kind.Notification o old new = OpensQueues o old new
QueuesFollowMade _ o old new = new ≡ old

-- an endpoint or a notification was closed
pub record ClosesQueues (o : ObjId) (old new : Queueing) : Type 0 where
  pub line : (q : Queue) → new.line q ≡ old.line q
  pub queue : (t : ObjId) → new.queue t ≡ old.queue t
  pub has : LosesQueues old.has new.has o
  pub made : (k : Kind) → new.made k ≡ old.made k
  pub there : CountsOneMore new.there old.there o.kind

-- how the queues follow the end of an object
abbrev pub QueuesFollowClosed : Kind → ObjId → Queueing → Queueing → Type 0
QueuesFollowClosed kind.Endpoint o old new = ClosesQueues o old new
QueuesFollowClosed kind.Notification o old new = ClosesQueues o old new
QueuesFollowClosed _ o old new = new ≡ old

-- how the queues follow a record
abbrev pub QueuesFollow : Log → Rec → Queueing → Queueing → Type 0
QueuesFollow R (rec.Made o f) old new = QueuesFollowMade o.kind o old new
QueuesFollow R (rec.Closed o) old new = QueuesFollowClosed o.kind o old new
QueuesFollow R (rec.Prio u p) old new = ShiftsInQueue u p.0 old new
QueuesFollow R (rec.Joins u q reply) old new = JoinsQueue u (prio_of R u) q old new
QueuesFollow R (rec.Parts u q) old new = PartsQueue u old new
QueuesFollow R _ old new = new ≡ old

-- the reply objects that are there are those that were, and so are their receivers
pub record SameReplies (old new : Owing) : Type 0 where
  pub counts : reply_counts new ≡ reply_counts old
  pub there : (x : ObjId) → has_reply new x ≡ has_reply old x

pub record SameReceivers (old new : Owing) : Type 0 where
  pub objects : SameReplies old new
  pub receivers : (x : ObjId) → receiver_in new x ≡ receiver_in old x

-- each owes whom it owed, and the chains are what they were
pub record SameDebts (old new : Owing) : Type 0 where
  pub owed : (x : ObjId) → owed_in new x ≡ owed_in old x
  pub chains : (s : ObjId) → chain_in new s ≡ chain_in old s

-- a reply object was made, or its receiver is this one from now on
pub record AddsReply (r : ObjId) (old new : Owing) : Type 0 where
  pub counts : reply_counts new ≡ one_more (reply_counts old)
  pub there : ChangesAt (has_reply old) (has_reply new) r true
  pub receivers : (x : ObjId) → receiver_in new x ≡ receiver_in old x
  pub debts : SameDebts old new

pub record SetsReceiver (r : ObjId) (t : Option ObjId) (old new : Owing) : Type 0 where
  pub objects : SameReplies old new
  pub receivers : ChangesAt (receiver_in old) (receiver_in new) r t
  pub debts : SameDebts old new

-- a reply object owes a caller from now on, who brought this context or none; or its debt ended
pub record AddsDebt (r x : ObjId) (brought : Option ObjId) (old new : Owing) : Type 0 where
  pub same : SameReceivers old new
  pub owed : SetsOwed old new r (Some x)
  pub chains : LiesOnTop old new r brought

pub record DropsDebt (r : ObjId) (how : Ending) (old new : Owing) : Type 0 where
  pub same : SameReceivers old new
  pub owed : SetsOwed old new r None
  pub chains : EndsDebt old new how r

-- how the reply objects follow the making of an object
abbrev pub RepliesFollowMade : Kind → ObjId → Owing → Owing → Type 0
RepliesFollowMade kind.Reply o old new = AddsReply o old new
RepliesFollowMade _ o old new = new ≡ old

-- a reply object was closed, or the chain of a context that was
pub record ClosesReply (r : ObjId) (old new : Owing) : Type 0 where
  pub counts : IsOneFewer (reply_counts old) (reply_counts new)
  pub there : ChangesAt (has_reply old) (has_reply new) r false
  pub receivers : (x : ObjId) → receiver_in new x ≡ receiver_in old x
  pub debts : SameDebts old new

pub record DropsChain (s : ObjId) (old new : Owing) : Type 0 where
  pub same : SameReceivers old new
  pub owed : (x : ObjId) → owed_in new x ≡ owed_in old x
  pub chains : ChangesAt (chain_in old) (chain_in new) s []

-- how the reply objects follow the end of an object
abbrev pub RepliesFollowClosed : Kind → ObjId → Owing → Owing → Type 0
RepliesFollowClosed kind.Reply o old new = ClosesReply o old new
RepliesFollowClosed kind.Context o old new = DropsChain o old new
RepliesFollowClosed _ o old new = new ≡ old

-- the receiver of a reply object, if there is one, is this one from now on
abbrev pub SetsAny : Option ObjId → Option ObjId → Owing → Owing → Type 0
SetsAny None t old new = new ≡ old
SetsAny (Some r) t old new = SetsReceiver r t old new

-- the reply object with which a thread is in a queue: in one of receivers it may be one
abbrev pub attended : Queue → Option ObjId → Option ObjId
attended (Receivers e) reply = reply
attended _ reply = None

-- how the reply objects follow a record; a debt that is paid leaves its chain as one whose reply
-- object is deleted
abbrev pub RepliesFollow : Log → Rec → Owing → Owing → Type 0
RepliesFollow R (rec.Made o f) old new = RepliesFollowMade o.kind o old new
RepliesFollow R (rec.Closed o) old new = RepliesFollowClosed o.kind o old new
RepliesFollow R (rec.Joins u q reply) old new = SetsAny (attended q reply) (Some u) old new
RepliesFollow R (rec.Parts u q) old new = SetsAny (attended q (reply_with R u)) None old new
RepliesFollow R (rec.Owes d x brought) old new = AddsDebt d x brought old new
RepliesFollow R (rec.Paid d x message) old new = DropsDebt d Deleted old new
RepliesFollow R (rec.Void d x how) old new = DropsDebt d how old new
RepliesFollow R _ old new = new ≡ old

-- the notifications that are there are those that were
pub record SameNotifications (old new : Signals) : Type 0 where
  pub counts : notification_counts new ≡ notification_counts old
  pub there : (x : ObjId) → has_notification new x ≡ has_notification old x

-- a notification was made, whose word is not pending, and which is bound to no thread
pub record AddsNotification (n : ObjId) (old new : Signals) : Type 0 where
  pub counts : notification_counts new ≡ one_more (notification_counts old)
  pub there : ChangesAt (has_notification old) (has_notification new) n true
  pub words : (x : ObjId) → word_in new x ≡ word_in old x
  pub threads : (x : ObjId) → thread_in new x ≡ thread_in old x
  pub homed : (x : ObjId) → homed_in new x ≡ homed_in old x

-- this is the pending word of a notification from now on, or none is
pub record KeepsWord (n : ObjId) (word : Option ℕ) (old new : Signals) : Type 0 where
  pub objects : SameNotifications old new
  pub words : SetsWord old new n word
  pub threads : (x : ObjId) → thread_in new x ≡ thread_in old x
  pub homed : (x : ObjId) → homed_in new x ≡ homed_in old x

-- a notification is bound to this thread from now on, or to none
pub record KeepsBound (n : ObjId) (t : Option ObjId) (old new : Signals) : Type 0 where
  pub objects : SameNotifications old new
  pub words : (x : ObjId) → word_in new x ≡ word_in old x
  pub threads : SetsThread old new n t
  pub homed : (x : ObjId) → homed_in new x ≡ homed_in old x

-- this context is homed at a notification from now on, or none is
pub record KeepsHomed (n : ObjId) (s : Option ObjId) (old new : Signals) : Type 0 where
  pub objects : SameNotifications old new
  pub words : (x : ObjId) → word_in new x ≡ word_in old x
  pub threads : (x : ObjId) → thread_in new x ≡ thread_in old x
  pub homed : SetsHomed old new n s

-- a context is homed at this notification from now on; or, where it is none, nothing is homed where
-- it was
abbrev pub Rehomes : ObjId → Option ObjId → Option ObjId → Signals → Signals → Type 0
Rehomes s from (Some n) old new = KeepsHomed n (Some s) old new
Rehomes s (Some n) None old new = KeepsHomed n None old new
Rehomes s None None old new = new ≡ old

-- a thread is bound to this notification from now on; or, where it is none, the one to which the
-- thread was bound is free
abbrev pub Rebinds : ObjId → Option ObjId → Option ObjId → Signals → Signals → Type 0
Rebinds t from (Some n) old new = KeepsBound n (Some t) old new
Rebinds t (Some n) None old new = KeepsBound n None old new
Rebinds t None None old new = new ≡ old

-- how the notifications follow the making of an object
abbrev pub NotificationsFollowMade : Kind → ObjId → Signals → Signals → Type 0
NotificationsFollowMade kind.Notification o old new = AddsNotification o old new
NotificationsFollowMade _ o old new = new ≡ old

-- a notification was closed, and its word with it
pub record ClosesNotification (n : ObjId) (old new : Signals) : Type 0 where
  pub counts : IsOneFewer (notification_counts old) (notification_counts new)
  pub there : ChangesAt (has_notification old) (has_notification new) n false
  pub words : SetsWord old new n None
  pub threads : (x : ObjId) → thread_in new x ≡ thread_in old x
  pub homed : (x : ObjId) → homed_in new x ≡ homed_in old x

-- how the notifications follow the end of an object
abbrev pub NotificationsFollowClosed : Kind → ObjId → Signals → Signals → Type 0
NotificationsFollowClosed kind.Notification o old new = ClosesNotification o old new
NotificationsFollowClosed _ o old new = new ≡ old

-- how the notifications follow a record
abbrev pub NotificationsFollow : Log → Rec → Signals → Signals → Type 0
NotificationsFollow R (rec.Made o f) old new = NotificationsFollowMade o.kind o old new
NotificationsFollow R (rec.Closed o) old new = NotificationsFollowClosed o.kind o old new
NotificationsFollow R (rec.Raised n badge) old new = KeepsWord n (Some (with_badge badge.0 (word_in old n))) old new
NotificationsFollow R (rec.Heard t n word) old new = KeepsWord n None old new
NotificationsFollow R (rec.Tied t n) old new = Rebinds t (bound_of R t) n old new
NotificationsFollow R (rec.Homed s n) old new = Rehomes s (home_of R s) n old new
NotificationsFollow R _ old new = new ≡ old

-- how the pages follow a record
abbrev pub SlotsFollow : Rec → List Page → List Page → Type 0
SlotsFollow (rec.Made o (form.Slots radix)) old new = new ≡ old ++ empty_page radix ∷ []
SlotsFollow (rec.Slot c i cap) old new = ArePages old × (new ≡ filled old (record { cnode = c; index = i }) cap)
SlotsFollow _ old new = new ≡ old

-- how the number of messages follows a record
abbrev pub SentFollows : Rec → ℕ → ℕ → Type 0
SentFollows (rec.Sent x e mode badge message) old new = new ≡ old + 1
SentFollows _ old new = new ≡ old

-- each table follows a record
pub record Follows (R : Log) (r : Rec) (old new : Tables) : Type 0 where
  pub threads : ThreadsFollow R r old.threads new.threads
  pub letters : LettersFollow R r old.letters new.letters
  pub contexts : ContextsFollow r old.contexts new.contexts
  pub queues : QueuesFollow R r old.queues new.queues
  pub replies : RepliesFollow R r old.replies new.replies
  pub notifications : NotificationsFollow R r old.notifications new.notifications
  pub slots : SlotsFollow r old.slots new.slots
  pub sent : SentFollows r old.sent new.sent

-- each table follows the end of an object of a kind
pub record FollowsClosed (k : Kind) (o : ObjId) (old new : Tables) : Type 0 where
  pub threads : ThreadsFollowClosed k o old.threads new.threads
  pub letters : new.letters ≡ old.letters
  pub contexts : ContextsFollowClosed k o old.contexts new.contexts
  pub queues : QueuesFollowClosed k o old.queues new.queues
  pub replies : RepliesFollowClosed k o old.replies new.replies
  pub notifications : NotificationsFollowClosed k o old.notifications new.notifications
  pub slots : new.slots ≡ old.slots
  pub sent : new.sent ≡ old.sent
