-- What a thread receives from, in the parts in which the code finds it.
use Rattle.std.specs.Prelude.{ℕ, cond, Option, Some, None, Ok, Err}
use Rattle.mcs_types.specs.declared.id.ObjId.{ObjId}
use Rattle.mcs_types.specs.declared.id.Kind.{Kind}
use Rattle.mcs_types.specs.declared.id.Kind.TheVariants as kind
use Rattle.mcs_types.specs.declared.cap.Cap.{Cap}
use Rattle.mcs_types.specs.declared.entry.Refusal.TheVariants.{WrongKind, AlreadyBound}
use Rattle.mcs_book.specs.Logs.{Log}
use Rattle.mcs_book.specs.Checks.{Checked}
use Rattle.mcs_book.specs.Lookup.{capability}
use Rattle.mcs_book.specs.Notifications.{tied_to}
use Rattle.mcs_book.specs.Receiving.{bound_elsewhere}
use Rattle.mcs_book.specs.Rights.{can_badge}
use Rattle.mcs_state.specs.Checks.{readable, object_named}
use Rattle.mcs_ipc.specs.declared.checks.Exchange.{Exchange}
use Rattle.mcs_ipc.specs.declared.checks.Replying.{Replying}
use Rattle.mcs_ipc.specs.declared.checks.Source.{Source}
use Rattle.mcs_ipc.specs.declared.checks.Source.TheVariants as source
use Rattle.mcs_ipc.specs.declared.checks.Target.{Target}
use Rattle.mcs_ipc.specs.Rows.{sendable}

-- the reply object that was found
abbrev pub reply_found : Checked ObjId → Checked (Option ObjId)
reply_found (Err why) = Err why
reply_found (Ok r) = Ok (Some r)

-- the reply object that t names, if it names one
abbrev pub reply_named : Log → ObjId → Option ℕ → Checked (Option ObjId)
reply_named R t None = Ok None
reply_named R t (Some r) = reply_found (object_named R t kind.Reply r)

-- an endpoint and a reply object, of which the first is tested first
abbrev pub with_reply : Checked Cap → Checked (Option ObjId) → Checked Source
with_reply (Err why) reply = Err why
with_reply (Ok cap) (Err why) = Err why
with_reply (Ok cap) (Ok reply) = Ok (source.Endpoint (record { endpoint = cap.obj; reply = reply }))

-- the endpoint of a capability, and a reply object
abbrev pub endpoint_source : Cap → Checked (Option ObjId) → Checked Source
endpoint_source cap reply = with_reply (readable (Ok cap)) reply

-- the notification of a capability, where no other thread is bound to it
abbrev pub waitable : Log → ObjId → Checked Cap → Checked Source
waitable R t (Err why) = Err why
waitable R t (Ok cap) = cond (bound_elsewhere (tied_to R cap.obj) t) (Err AlreadyBound) (Ok (source.Notification cap.obj))

-- the same, where one may receive over the capability
abbrev pub notification_source : Log → ObjId → Cap → Checked Source
notification_source R t cap = waitable R t (readable (Ok cap))

-- what t receives from over a capability to an object of this kind; a reply object is named for an
-- endpoint alone
abbrev pub source_by : Kind → Log → ObjId → Cap → Option ℕ → Checked Source
source_by kind.Endpoint R t cap r = endpoint_source cap (reply_named R t r)
source_by kind.Notification R t cap r = notification_source R t cap
source_by _ R t cap r = Err WrongKind

-- the same over a capability that was found
abbrev pub source_over : Log → ObjId → Option ℕ → Checked Cap → Checked Source
source_over R t r (Err why) = Err why
source_over R t r (Ok cap) = source_by cap.obj.kind R t cap r

-- what t receives from, or the first check that fails
abbrev pub receivable : Log → ObjId → ℕ → Option ℕ → Checked Source
receivable R t a r = source_over R t r (capability R t a)

-- what was found second, where the first was found
abbrev pub second_found : {A B : Type 0} → Checked A → Checked B → Checked B
second_found (Err why) second = Err why
second_found (Ok first) second = second

-- the reply object that t pays before it receives over a capability
abbrev pub reply_to_pay : Log → ObjId → Cap → ℕ → Checked ObjId
reply_to_pay R t cap r = second_found (readable (Ok cap)) (object_named R t kind.Reply r)

-- what t receives from when it has paid a reply object
abbrev pub replied_source : Kind → Log → ObjId → Cap → ObjId → Checked Source
replied_source kind.Notification R t cap r = notification_source R t cap
replied_source _ R t cap r = Ok (source.Endpoint (record { endpoint = cap.obj; reply = Some r }))

-- a reply object, and what was found beside it
abbrev pub replying : ObjId → Checked Source → Checked Replying
replying r (Err why) = Err why
replying r (Ok from) = Ok (record { reply = r; source = from })

-- the same for a reply object that was found
abbrev pub replying_by : Kind → Log → ObjId → Cap → Checked ObjId → Checked Replying
replying_by k R t cap (Err why) = Err why
replying_by k R t cap (Ok r) = replying r (replied_source k R t cap r)

-- the same over a capability that was found, to an endpoint or a notification
abbrev pub replying_over : Log → ObjId → ℕ → Checked Cap → Checked Replying
replying_over R t r (Err why) = Err why
replying_over R t r (Ok cap) = cond (can_badge cap) (replying_by cap.obj.kind R t cap (reply_to_pay R t cap r)) (Err WrongKind)

-- what t pays and then receives from, or the first check that fails
abbrev pub answerable : Log → ObjId → ℕ → ℕ → Checked Replying
answerable R t a r = replying_over R t r (capability R t a)

-- what one sends over and what one receives from, of which the first is tested first
abbrev pub exchange_found : Checked Target → Checked Source → Checked Exchange
exchange_found (Err why) from = Err why
exchange_found (Ok over) (Err why) = Err why
exchange_found (Ok over) (Ok from) = Ok (record { target = over; source = from })

-- what t sends over and then receives from, or the first check that fails
abbrev pub exchangeable : Log → ObjId → ℕ → ℕ → Option ℕ → Checked Exchange
exchangeable R t a s r = exchange_found (sendable R t a) (receivable R t s r)
