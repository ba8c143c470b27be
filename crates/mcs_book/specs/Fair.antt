-- Fair books: seven laws, in nine clauses, over records, lines and the questions about them. None
-- speaks of the table of entries.
use Rattle.std.specs.Prelude.{ℕ, ◌≡◌, ◌≢◌, ◌<◌, ◌⊎◌, false, Bool, Option, Some, None, ◌==◌, IsTrue}
use Rattle.std.specs.List.{list_any}
use Rattle.mcs_types.specs.Brings.{message_of}
use Rattle.mcs_types.specs.declared.id.ObjId.{ObjId}
use Rattle.mcs_types.specs.declared.cap.Cap.{Cap}
use Rattle.mcs_types.specs.declared.record.Queue.{Queue}
use Rattle.mcs_types.specs.declared.record.Queue.TheVariants.{Senders, Receivers}
use Rattle.mcs_types.specs.declared.record.Mail.TheVariants as mail
use Rattle.mcs_types.specs.declared.record.Rec.{Rec}
use Rattle.mcs_types.specs.declared.record.Rec.TheVariants.{Sent, Took, Dropped, Owes, Paid, Void}
use Rattle.mcs_types.specs.declared.entry.Answer.TheVariants.{Got}
use Rattle.mcs_types.specs.declared.entry.Entry.{Entry}
use Rattle.mcs_types.specs.declared.entry.Entry.TheVariants.{Send, NbSend, Call, NbSendRecv, NbSendWait}
use Rattle.mcs_book.specs.Logs.{Log, onto}
use Rattle.mcs_book.specs.Objects.{is_alive}
use Rattle.mcs_types.specs.Chains.{head_of}
use Rattle.mcs_book.specs.Queues.{queue_of, is_ahead}
use Rattle.mcs_types.specs.declared.record.Letter.{Letter}
use Rattle.mcs_book.specs.Messages.{letter, is_open}
use Rattle.mcs_book.specs.Contexts.{context_of, holder_of}
use Rattle.mcs_book.specs.Replies.{owed_by, brought_to}
use Rattle.mcs_book.specs.Chains.{chain_of}
use Rattle.mcs_book.specs.Statuses.{mail_of, letter_mail}
use Rattle.mcs_book.specs.Paths.{IsNamed}
use Rattle.mcs_book.specs.History.{Line, Book}
use Rattle.mcs_book.specs.Each.{EachOf, EachLine, AfterEachLine, EachRecord}

-- Taken once. What is taken or dropped is open: it was sent, and neither taken nor dropped before.
abbrev pub EndsOpen : Log → Rec → Type 0
EndsOpen R (Took m p) = IsTrue (is_open R m)
EndsOpen R (Dropped m) = IsTrue (is_open R m)
EndsOpen R _ = Unit {0}

-- the address over which an entry sends
abbrev pub address_used : Entry → Option ℕ
address_used (Send a message) = Some a
address_used (NbSend a message) = Some a
address_used (Call a message) = Some a
address_used (NbSendRecv a source r message) = Some a
address_used (NbSendWait a source message) = Some a
address_used _ = None

-- the endpoint and the badge of a message are those of the capability that its sender named
abbrev pub IsOver : Log → Line → ObjId → ObjId → ℕ → Type 0
IsOver before l x e badge = (a : ℕ) × (cap : Cap) × (address_used l.step.entry ≡ Some a) × IsNamed before x a cap × (e ≡ cap.obj) × (badge ≡ cap.badge.0)

-- Whole, when sent: by the line's thread, with the message of its entry, over the capability that
-- it named.
abbrev pub IsSentWhole : Log → Line → Log → Rec → Type 0
IsSentWhole before l R (Sent x e mode badge message) = (x ≡ l.step.thread) × (message_of l.step.entry ≡ Some message) × IsOver before l x e badge.0
IsSentWhole before l R _ = Unit {0}

-- Whole, when taken: the line's own thread is answered badge and message; another has them in its
-- mail after the line.
abbrev pub IsTakenWhole : Log → Line → Log → Rec → Type 0
IsTakenWhole after l R (Took m p) = (s : Letter) → letter R m ≡ Some s → (p ≡ l.step.thread → l.answer ≡ Got s.badge s.message) × (p ≢ l.step.thread → mail_of after p ≡ Some (letter_mail s))
IsTakenWhole after l R _ = Unit {0}

-- Whole: each message of a line, when sent and when taken
abbrev pub IsWholeLine : Log → Line → Type 0
IsWholeLine R l = EachOf (IsSentWhole R l) R l.records × EachOf (IsTakenWhole (onto l.records R) l) R l.records

-- t is in queue q, and ahead of all others there
abbrev pub IsFirst : Log → Queue → ObjId → Type 0
IsFirst R q t = (queue_of R t ≡ Some q) × ((u : ObjId) → queue_of R u ≡ Some q → u ≢ t → IsTrue (is_ahead R t u))

-- the sender is the first of the senders, or the taker the first of the receivers; never both
abbrev pub IsFirstOfOne : Log → Letter → ObjId → Type 0
IsFirstOfOne R s p = (IsFirst R (Senders s.endpoint) s.sender × queue_of R p ≢ Some (Receivers s.endpoint))
    ⊎ (IsFirst R (Receivers s.endpoint) p × queue_of R s.sender ≢ Some (Senders s.endpoint))

-- By priority, and then by place in the queue.
abbrev pub TakesFirst : Log → Rec → Type 0
TakesFirst R (Took m p) = (s : Letter) → letter R m ≡ Some s → IsFirstOfOne R s p
TakesFirst R _ = Unit {0}

-- whether a record takes message m
abbrev pub takes : ℕ → Rec → Bool
takes m (Took m' p) = m == m'
takes m _ = false

-- In sending order for each sender: no later message of the same sender was taken before.
abbrev pub TakesInOrder : Log → Rec → Type 0
TakesInOrder R (Took m p) = (later : ℕ) → m < later → (s s' : Letter) → letter R m ≡ Some s → letter R later ≡ Some s' → s'.sender ≡ s.sender → list_any (takes later) R ≡ false
TakesInOrder R _ = Unit {0}

-- Never after deletion: the endpoint of a message that is taken is there.
abbrev pub TakesAlive : Log → Rec → Type 0
TakesAlive R (Took m p) = (s : Letter) → letter R m ≡ Some s → IsTrue (is_alive R s.endpoint)
TakesAlive R _ = Unit {0}

-- message m is open, of x and on e
pub record IsOpenOf (R : Log) (x e : ObjId) (m : ℕ) : Type 0 where
  pub sent : Letter
  pub is_letter : letter R m ≡ Some sent
  pub is_open : IsTrue (is_open R m)
  pub of_sender : sent.sender ≡ x
  pub on_endpoint : sent.endpoint ≡ e

-- Never after cancellation: a thread is among the senders of e exactly where a message of it on e
-- is open, and no thread has two.
pub record SendersAreOpen (R : Log) : Type 0 where
  pub queued : (x e : ObjId) → queue_of R x ≡ Some (Senders e) → (m : ℕ) × IsOpenOf R x e m
  pub open_queued : (x e : ObjId) (m : ℕ) → IsOpenOf R x e m → queue_of R x ≡ Some (Senders e)
  pub one : (x e e' : ObjId) (m n : ℕ) → IsOpenOf R x e m → IsOpenOf R x e' n → m ≡ n

-- Answered once. What is paid or void was owed, to that caller; and what comes to owe owed no
-- thread.
abbrev pub AnswersOwed : Log → Rec → Type 0
AnswersOwed R (Paid r x message) = owed_by R r ≡ Some x
AnswersOwed R (Void r x ending) = owed_by R r ≡ Some x
AnswersOwed R (Owes r x s) = owed_by R r ≡ None
AnswersOwed R _ = Unit {0}

-- A reply that tops a chain when paid returns the context that it brought, if its caller holds
-- none.
abbrev pub GivesBack : Log → Log → Rec → Type 0
GivesBack after R (Paid r x message) = (s : ObjId) → head_of (chain_of R s) ≡ Some r → context_of R x ≡ None → (brought_to R r ≡ Some s) × (holder_of after s ≡ Some x)
GivesBack after R _ = Unit {0}

-- A caller gets the message of the payer's entry, with badge 0.
abbrev pub IsPaidWhole : Log → Line → Log → Rec → Type 0
IsPaidWhole after l R (Paid r x message) = (message_of l.step.entry ≡ Some message) × (mail_of after x ≡ Some (mail.Message (record { 0 = 0 }) message))
IsPaidWhole after l R _ = Unit {0}

-- Answered once: what each line says of contexts and answers
abbrev pub AnswersWhole : Log → Line → Type 0
AnswersWhole R l = EachOf (GivesBack (onto l.records R)) R l.records × EachOf (IsPaidWhole (onto l.records R) l) R l.records

-- No pair left waiting: no endpoint has both a sender and a receiver in its queues.
abbrev pub NoneWaitBeside : Log → Type 0
NoneWaitBeside R = (e x p : ObjId) → queue_of R x ≡ Some (Senders e) → queue_of R p ≡ Some (Receivers e) → ⊥

-- a fair book
pub record IsFair (b : Book) : Type 0 where
  pub taken_once : EachRecord EndsOpen b
  pub whole : EachLine IsWholeLine b
  pub by_priority : EachRecord TakesFirst b
  pub in_order : EachRecord TakesInOrder b
  pub not_deleted : EachRecord TakesAlive b
  pub not_cancelled : AfterEachLine SendersAreOpen b
  pub answered_once : EachRecord AnswersOwed b
  pub answered_whole : EachLine AnswersWhole b
  pub none_beside : AfterEachLine NoneWaitBeside b
