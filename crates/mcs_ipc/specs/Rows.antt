-- The rows of sends, calls and receives, in the parts in which the code does them.
use Rattle.std.specs.Prelude.{ℕ, Bool, true, false, cond, Option, Some, None, Ok, Err}
use Rattle.mcs_types.specs.Views.{Content}
use Rattle.mcs_types.specs.declared.id.ObjId.{ObjId}
use Rattle.mcs_types.specs.declared.id.Badge.{Badge}
use Rattle.mcs_types.specs.declared.id.Kind.{Kind}
use Rattle.mcs_types.specs.declared.id.Kind.TheVariants as kind
use Rattle.mcs_types.specs.declared.cap.Cap.{Cap}
use Rattle.mcs_types.specs.declared.record.SendMode.{SendMode}
use Rattle.mcs_types.specs.declared.record.SendMode.TheVariants as how
use Rattle.mcs_types.specs.declared.entry.Answer.{Answer}
use Rattle.mcs_types.specs.declared.entry.Entry.{Entry}
use Rattle.mcs_types.specs.declared.entry.Entry.TheVariants.{Send, NbSend, Recv, NbRecv, Wait, NbWait, NbSendRecv, NbSendWait}
use Rattle.mcs_types.specs.declared.entry.Answer.TheVariants.{Done, Waits, Refused}
use Rattle.mcs_types.specs.declared.entry.Refusal.TheVariants.{WrongKind, NoRight}
use Rattle.mcs_book.specs.Logs.{Log}
use Rattle.mcs_book.specs.Checks.{Checked}
use Rattle.mcs_book.specs.Lookup.{capability}
use Rattle.mcs_book.specs.Rights.{may_write}
use Rattle.mcs_types.specs.declared.record.Mode.TheVariants.{Running}
use Rattle.mcs_types.specs.declared.record.Queue.TheVariants.{Senders, Receivers}
use Rattle.mcs_types.specs.declared.record.Rec.TheVariants.{Took, Parts, Turns}
use Rattle.mcs_book.specs.Pieces.{Piece, Act, ◌then◌, say, nothing, answers, silently, before}
use Rattle.mcs_book.specs.Contexts.{context_of}
use Rattle.mcs_book.specs.Notifications.{bound_of}
use Rattle.mcs_book.specs.Queues.{first_in}
use Rattle.mcs_book.specs.Taking.{settle, pay}
use Rattle.mcs_book.specs.Sending.{letter_to, sends, queues}
use Rattle.mcs_book.specs.Receiving.{receive_on, take_open, open_of_any, stand, joins_or, wait_on}
use Rattle.mcs_notify.specs.Rows.{signal_act}
use Rattle.mcs_state.specs.Checks.{kinded, writable}
use Rattle.mcs_ipc.specs.declared.checks.Exchange.{Exchange}
use Rattle.mcs_ipc.specs.declared.checks.Replying.{Replying}
use Rattle.mcs_ipc.specs.declared.checks.Source.{Source}
use Rattle.mcs_ipc.specs.declared.checks.Source.TheVariants as source
use Rattle.mcs_ipc.specs.declared.checks.Target.{Target}
use Rattle.mcs_ipc.specs.declared.checks.Target.TheVariants as target
use Rattle.mcs_ipc.specs.declared.transfer.Delivery.{Delivery}

-- what one sends over by a capability to an object of this kind
abbrev pub target_by : Kind → Cap → Checked Target
target_by kind.Endpoint cap = cond (may_write cap) (Ok (target.Endpoint cap)) (Err NoRight)
target_by kind.Notification cap = cond (may_write cap) (Ok (target.Notification cap)) (Err NoRight)
target_by kind.Reply cap = Ok (target.Reply cap.obj)
target_by _ cap = Err WrongKind

-- the same of a capability that was found
abbrev pub target_of : Checked Cap → Checked Target
target_of (Err why) = Err why
target_of (Ok cap) = target_by cap.obj.kind cap

-- what t sends over, or the first check that fails
abbrev pub sendable : Log → ObjId → ℕ → Checked Target
sendable R t a = target_of (capability R t a)

-- the capability over which t calls, or the first check that fails
abbrev pub callable : Log → ObjId → ℕ → Checked Cap
callable R t a = writable (kinded kind.Endpoint (capability R t a))

-- Send where it blocks, and NBSend where not
abbrev pub send_entry : Bool → ℕ → Content → Entry
send_entry true a message = Send a message
send_entry false a message = NbSend a message

-- Recv and NBRecv with a reply object, Wait and NBWait without one
abbrev pub receive_entry : Bool → ℕ → Option ℕ → Entry
receive_entry true a (Some r) = Recv a r
receive_entry false a (Some r) = NbRecv a r
receive_entry true a None = Wait a
receive_entry false a None = NbWait a

-- what is answered when a message is taken at once: a caller waits for its answer
abbrev pub answer_to : SendMode → Answer
answer_to how.Plain = Done
answer_to how.Call = Waits
answer_to how.Mute = Waits
answer_to how.Give = Done

-- what is answered to who sent, and waits or not
abbrev pub said : Bool → Answer
said true = Waits
said false = Done

-- the same, or the refusal of a send
abbrev pub send_answer : Checked Bool → Answer
send_answer (Ok waits) = said waits
send_answer (Err why) = Refused why

-- what t does where no thread receives: it waits in the queue, or the message is dropped
abbrev pub alone_act : Bool → SendMode → ObjId → ObjId → Badge → Content → Act
alone_act true mode t e badge message = queues (letter_to t e badge mode message)
alone_act false mode t e badge message = answers Done nothing

-- t sends to the endpoint e with a badge, or calls
unfoldable pub send_act : Bool → SendMode → ObjId → ObjId → Badge → Content → Act
send_act blocks mode t e badge message = sends (letter_to t e badge mode message) (answer_to mode) (alone_act blocks mode t e badge message)

-- a reply object is paid
unfoldable pub pay_act : ObjId → Content → Act
pay_act r message = answers Done (pay r message)

-- t sends over an endpoint, a notification or a reply object
abbrev pub target_act : Bool → SendMode → ObjId → Content → Target → Act
target_act blocks mode t message (target.Endpoint cap) = send_act blocks mode t cap.obj cap.badge message
target_act blocks mode t message (target.Notification cap) = signal_act cap
target_act blocks mode t message (target.Reply r) = pay_act r message

-- what t does where no thread sends: it waits among the receivers, or is answered at once
abbrev pub stand_act : Log → Bool → ObjId → ObjId → Option ObjId → Act
stand_act R blocks t e r = joins_or blocks (stand t (Receivers e) r (bound_of R t))

-- t takes the message of the first sender, where no word is pending for it
unfoldable pub take_act : Bool → ObjId → ObjId → Option ObjId → Act
take_act blocks t e r R = take_open t r (open_of_any R (first_in R (Senders e))) (stand_act R blocks t e r) R

-- t receives on an endpoint, with a reply object or without
abbrev pub receive_act : Bool → ObjId → ObjId → Option ObjId → Act
receive_act blocks t e r = receive_on t e r blocks

-- t receives on an endpoint, or waits on a notification
abbrev pub source_act : Bool → ObjId → Source → Act
source_act blocks t (source.Endpoint at) = receive_act blocks t at.endpoint at.reply
source_act blocks t (source.Notification n) = wait_on t n blocks

-- t pays its reply object, and then receives
abbrev pub reply_receive_act : Content → ObjId → Replying → Act
reply_receive_act message t at = before (pay at.reply message) (source_act true t at.source)

-- NBSendRecv with a reply object, NBSendWait without one
abbrev pub exchange_entry : ℕ → ℕ → Option ℕ → Content → Entry
exchange_entry a s (Some r) message = NbSendRecv a s r message
exchange_entry a s None message = NbSendWait a s message

-- t sends what does not wait, with its context, and then receives
abbrev pub exchange_act : Content → ObjId → Exchange → Act
exchange_act message t at = before (silently (target_act false how.Give t message at.target)) (source_act true t at.source)

-- what a caller lends, of what the receiver and it hold: its own, where the receiver holds none
abbrev pub lent_of : Option ObjId → Option ObjId → Option ObjId
lent_of (Some s) own = None
lent_of None own = own

-- the context that the caller x lends to the receiver p
abbrev pub lent : Log → ObjId → ObjId → Option ObjId
lent R x p = lent_of (context_of R p) (context_of R x)

-- a sender who was in a queue runs again after a plain send; one that was in none runs still
abbrev pub resumes : Bool → ObjId → Piece
resumes true x = say (Turns x Running)
resumes false x = nothing

-- the message of a sender who is in its queue is taken by t, who receives with r
unfoldable pub taken_by : Delivery → ObjId → Option ObjId → Piece
taken_by d t r =
    say (Took d.number t)
    then say (Parts d.sender (Senders d.endpoint))
    then settle d.mode d.sender t r (resumes true d.sender)
