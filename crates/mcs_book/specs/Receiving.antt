-- Receives and waits, after the lookup of their source (manual: Message Passing; Notifications).
use Rattle.std.specs.Prelude.{ℕ, Bool, true, false, cond, not, ◌&&◌, Option, Some, None, Ok, Err}
use Rattle.mcs_types.specs.Views.{Content}
use Rattle.mcs_types.specs.declared.id.ObjId.{ObjId}
use Rattle.mcs_types.specs.declared.id.Kind.{Kind}
use Rattle.mcs_types.specs.declared.id.Kind.TheVariants.{Endpoint, Notification, Reply}
use Rattle.mcs_types.specs.declared.cap.Cap.{Cap}
use Rattle.mcs_types.specs.declared.record.Mode.TheVariants.{Inactive}
use Rattle.mcs_types.specs.declared.record.Queue.{Queue}
use Rattle.mcs_types.specs.declared.record.Queue.TheVariants.{Senders, Receivers, Waiters}
use Rattle.mcs_types.specs.declared.record.Rec.TheVariants as rec
use Rattle.mcs_types.specs.declared.entry.Answer.TheVariants.{Got, Heard, Empty, Waits}
use Rattle.mcs_types.specs.declared.entry.Refusal.TheVariants.{WrongKind, NoRight, AlreadyBound}
use Rattle.mcs_types.specs.Ids.{same, is_just}
use Rattle.mcs_book.specs.Logs.{Log}
use Rattle.mcs_types.specs.declared.record.Letter.{Letter}
use Rattle.mcs_book.specs.Messages.{open_of}
use Rattle.mcs_book.specs.Queues.{first_in}
use Rattle.mcs_book.specs.Replies.{user_of}
use Rattle.mcs_book.specs.Notifications.{bound_of, tied_to, pending}
use Rattle.mcs_book.specs.Contexts.{context_of, home_of}
use Rattle.mcs_book.specs.Chains.{is_unlent}
use Rattle.mcs_book.specs.Checks.{Checked, ◌>>=◌, ◌>>◌, Passed, need}
use Rattle.mcs_book.specs.Rights.{may_read, can_badge}
use Rattle.mcs_book.specs.Lookup.{capability, of_kind}
use Rattle.mcs_book.specs.Pieces.{Piece, ◌then◌, nothing, say, with_any, Act, answers, silently, before}
use Rattle.mcs_book.specs.Taking.{taken, pay}
use Rattle.mcs_book.specs.Cancelling.{cancel, let_go}

-- a context, if it is homed at the notification and has an empty chain
abbrev pub if_at_home : Log → Option ObjId → Option ObjId → Option ObjId
if_at_home R (Some n) (Some s) = cond (is_just (home_of R s) n && is_unlent R s) (Some s) None
if_at_home R _ _ = None

-- t gives up the context that it holds, if that is homed at the notification and has an empty chain
unfoldable pub go_home : ObjId → Option ObjId → Piece
go_home t n R = let_go (if_at_home R n (context_of R t)) R

-- t is in the queue q with the reply object r; n is the notification by which it may wake
unfoldable pub stand : ObjId → Queue → Option ObjId → Option ObjId → Piece
stand t q r n = say (rec.Joins t q r) then go_home t n

-- blocks, or is answered at once that nothing is there
unfoldable pub joins_or : Bool → Piece → Act
joins_or true stands = answers Waits stands
joins_or false stands = answers Empty nothing

-- a pending word comes before anything else
unfoldable pub hear : ObjId → Option ObjId → Option ℕ → Act → Act
hear t (Some n) (Some word) otherwise = answers (Heard word) (say (rec.Heard t n word))
hear t _ _ otherwise = otherwise

-- the open message of a queued sender is taken, if there is one
unfoldable pub take_open : ObjId → Option ObjId → Option Letter → Act → Act
take_open t r (Some s) otherwise = answers (Got s.badge s.message) (taken s t r)
take_open t r None otherwise = otherwise

-- the open message of somebody, if there is somebody
abbrev pub open_of_any : Log → Option ObjId → Option Letter
open_of_any R None = None
open_of_any R (Some x) = open_of R x

-- the pending word of a notification, if there is one
abbrev pub pending_of_any : Log → Option ObjId → Option ℕ
pending_of_any R None = None
pending_of_any R (Some n) = pending R n

-- t receives on an endpoint: a word of its bound notification, else the message of the first
-- sender, else nothing yet
unfoldable pub receive_message : ObjId → ObjId → Option ObjId → Bool → Act
receive_message t e r blocking R =
    hear t (bound_of R t) (pending_of_any R (bound_of R t))
    (take_open t r (open_of_any R (first_in R (Senders e))) (joins_or blocking (stand t (Receivers e) r (bound_of R t)))) R

-- the present user of the reply object r is cancelled
unfoldable pub free : ObjId → Piece
free r R = with_any (user_of R r) (λ x. cancel x Inactive) R

-- t receives on an endpoint with the reply object r, which is freed first
unfoldable pub receive_on : ObjId → ObjId → Option ObjId → Bool → Act
receive_on t e r blocking = before (with_any r free) (receive_message t e r blocking)

-- t waits on a notification
unfoldable pub wait_on : ObjId → ObjId → Bool → Act
wait_on t n blocking R = hear t (Some n) (pending R n) (joins_or blocking (stand t (Waiters n) None (Some n))) R

-- whether somebody else is bound
abbrev pub bound_elsewhere : Option ObjId → ObjId → Bool
bound_elsewhere None t = false
bound_elsewhere (Some u) t = not (same u t)

-- only the bound thread may wait on a bound notification
unfoldable pub may_wait : Log → ObjId → Cap → Checked Passed
may_wait R t cap = need (not (bound_elsewhere (tied_to R cap.obj) t)) AlreadyBound

-- a receive, by the kind of its source; reply is the reply object for an endpoint, which is looked
-- up only there
unfoldable pub receive_by : Kind → Log → ObjId → Cap → Checked (Option ObjId) → Bool → Checked Act
receive_by Endpoint R t cap reply blocking = do
  need (may_read cap) NoRight
  r ← reply
  Ok (receive_on t cap.obj r blocking)
receive_by Notification R t cap reply blocking = do
  need (may_read cap) NoRight
  may_wait R t cap
  Ok (wait_on t cap.obj blocking)
receive_by _ R t cap reply blocking = Err WrongKind

-- a receive over a capability
unfoldable pub receive_over : Log → ObjId → Cap → Checked (Option ObjId) → Bool → Checked Act
receive_over R t cap reply blocking = receive_by cap.obj.kind R t cap reply blocking

-- the reply object at an address
unfoldable pub reply_at : Log → ObjId → ℕ → Checked (Option ObjId)
reply_at R t address = do
  cap ← of_kind R t Reply address
  Ok (Some cap.obj)

-- a reply object is paid, if there is one
abbrev pub pay_any : Option ObjId → Content → Piece
pay_any r message = with_any r (λ r. pay r message)

-- pays, and then receives with the same reply object: all checks come first
unfoldable pub reply_receive : Log → ObjId → Cap → ℕ → Content → Checked Act
reply_receive R t cap address message = do
  need (can_badge cap) WrongKind
  need (may_read cap) NoRight
  r ← reply_at R t address
  receive ← receive_over R t cap (Ok r) true
  Ok (before (pay_any r message) receive)

-- sends, and then receives over a second capability: all checks come first, and the receive is what
-- is answered
unfoldable pub send_receive : Log → ObjId → Checked Act → ℕ → Checked (Option ObjId) → Checked Act
send_receive R t sending address reply = do
  send ← sending
  source ← capability R t address
  receive ← receive_over R t source reply true
  Ok (before (silently send) receive)
