-- What must hold before each record is made. Fair books follow from sound ones; no word of the
-- table of entries is used.
use Rattle.std.specs.Prelude.{ℕ, ◌≡◌, ◌≢◌, ◌<◌, ◌^◌, false, Some, None, IsTrue, IsSome}
use Rattle.std.specs.Option.{IfSome}
use Rattle.mcs_types.specs.declared.id.ObjId.{ObjId}
use Rattle.mcs_types.specs.declared.id.Kind.{Kind}
use Rattle.mcs_types.specs.declared.id.Kind.TheVariants as kind
use Rattle.mcs_types.specs.declared.record.Form.{Form}
use Rattle.mcs_types.specs.declared.record.Form.TheVariants as form
use Rattle.mcs_types.specs.declared.record.Mode.TheVariants.{Running}
use Rattle.mcs_types.specs.declared.record.Queue.{Queue}
use Rattle.mcs_types.specs.declared.record.Queue.TheVariants.{Senders, Receivers, Waiters}
use Rattle.mcs_types.specs.declared.record.Rec.{Rec}
use Rattle.mcs_types.specs.declared.record.Rec.TheVariants.{Made, Closed, Slot, Prio, Turns, Joins, Parts, Sent, Took, Dropped, Owes, Paid, Void, Holds, Raised, Heard, Tied, Homed}
use Rattle.mcs_book.specs.Logs.{Log}
use Rattle.mcs_book.specs.Objects.{is_alive, form_of, next_id}
use Rattle.mcs_book.specs.Slots.{slot, is_cap_to}
use Rattle.mcs_book.specs.Threads.{mode_of}
use Rattle.mcs_book.specs.Queues.{queue_of, reply_with}
use Rattle.mcs_book.specs.Messages.{is_open}
use Rattle.mcs_book.specs.Contexts.{holder_of, home_of}
use Rattle.mcs_book.specs.Replies.{owed_by}
use Rattle.mcs_book.specs.Notifications.{bound_of, pending}
use Rattle.mcs_book.specs.Lookup.{radix_kept}
use Rattle.mcs_book.specs.Each.{Each}
use Rattle.mcs_book.specs.Fair.{IsOpenOf}

-- o is there, and of this kind
abbrev pub IsThere : Log → Kind → ObjId → Type 0
IsThere R k o = (o.kind ≡ k) × IsTrue (is_alive R o)

-- what an object of a kind keeps for good
abbrev pub IsFormOf : Kind → Form → Type 0
IsFormOf kind.CNode (form.Slots radix) = radix < 9
IsFormOf kind.Thread (form.Runner maximum root) = maximum.0 < 256
IsFormOf kind.Context (form.OnCore core) = core.0 < 16
IsFormOf kind.Endpoint form.Plain = Unit {0}
IsFormOf kind.Notification form.Plain = Unit {0}
IsFormOf kind.Reply form.Plain = Unit {0}
IsFormOf _ _ = ⊥

-- the object of a line is there
abbrev pub IsLineThere : Log → Queue → Type 0
IsLineThere R (Senders e) = IsThere R kind.Endpoint e
IsLineThere R (Receivers e) = IsThere R kind.Endpoint e
IsLineThere R (Waiters n) = IsThere R kind.Notification n

-- no thread is in a queue
abbrev pub IsEmptyLine : Log → Queue → Type 0
IsEmptyLine R q = (x : ObjId) → queue_of R x ≢ Some q

-- no reply object owes x
abbrev pub IsOwedNothing : Log → ObjId → Type 0
IsOwedNothing R x = (r : ObjId) → owed_by R r ≢ Some x

-- x is blocked on nothing
abbrev pub IsIdle : Log → ObjId → Type 0
IsIdle R x = (queue_of R x ≡ None) × IsOwedNothing R x

-- no thread receives with r
abbrev pub IsUnattended : Log → ObjId → Type 0
IsUnattended R r = (x e : ObjId) → queue_of R x ≡ Some (Receivers e) → reply_with R x ≢ Some r

-- r has no user
abbrev pub IsFreeReply : Log → ObjId → Type 0
IsFreeReply R r = (owed_by R r ≡ None) × IsUnattended R r

-- x holds no context
abbrev pub HoldsNone : Log → ObjId → Type 0
HoldsNone R x = (s : ObjId) → holder_of R s ≢ Some x

-- no thread is bound to n
abbrev pub IsUnbound : Log → ObjId → Type 0
IsUnbound R n = (t : ObjId) → bound_of R t ≢ Some n

-- no context is homed at n
abbrev pub IsNoHome : Log → ObjId → Type 0
IsNoHome R n = (s : ObjId) → home_of R s ≢ Some n

-- x has no open message
abbrev pub HasNoneOpen : Log → ObjId → Type 0
HasNoneOpen R x = (e : ObjId) (m : ℕ) → IsOpenOf R x e m → ⊥

-- no thread is left with o
abbrev pub IsReleased : Log → Kind → ObjId → Type 0
IsReleased R kind.CNode o = ⊥
IsReleased R kind.Endpoint o = IsEmptyLine R (Senders o) × IsEmptyLine R (Receivers o)
IsReleased R kind.Notification o = IsEmptyLine R (Waiters o) × IsUnbound R o × IsNoHome R o
IsReleased R kind.Reply o = IsFreeReply R o
IsReleased R kind.Context o = (holder_of R o ≡ None) × (home_of R o ≡ None)
IsReleased R kind.Thread o = IsIdle R o × HoldsNone R o × (bound_of R o ≡ None)

-- what must hold before a record is made; R is before it
abbrev pub Allowed : Log → Rec → Type 0
Allowed R (Made o form) = (o ≡ next_id R o.kind) × IsFormOf o.kind form
Allowed R (Closed o) = IsTrue (is_alive R o) × IsReleased R o.kind o × ((c : ObjId) (i : ℕ) → is_cap_to o (slot R c i) ≡ false)
Allowed R (Slot c i cap) = IsThere R kind.CNode c × (i < 2 ^ radix_kept (form_of R c)) × IfSome cap (λ a. IsTrue (is_alive R a.obj))
Allowed R (Prio t p) = IsThere R kind.Thread t × (p.0 < 256)
Allowed R (Turns t mode) = IsThere R kind.Thread t × IsIdle R t
Allowed R (Joins t q reply) = IsThere R kind.Thread t × IsIdle R t × (mode_of R t ≡ Running) × IsLineThere R q × IfSome reply (λ r. IsThere R kind.Reply r × IsFreeReply R r)
Allowed R (Parts t q) = queue_of R t ≡ Some q
Allowed R (Sent x e mode badge message) = IsThere R kind.Thread x × IsIdle R x × IsThere R kind.Endpoint e × HasNoneOpen R x
Allowed R (Took m p) = IsThere R kind.Thread p × IsTrue (is_open R m)
Allowed R (Dropped m) = IsTrue (is_open R m)
Allowed R (Owes r x s) = IsThere R kind.Reply r × IsFreeReply R r × IsThere R kind.Thread x × IsIdle R x × IfSome s (λ c. holder_of R c ≡ Some x)
Allowed R (Paid r x message) = owed_by R r ≡ Some x
Allowed R (Void r x ending) = owed_by R r ≡ Some x
Allowed R (Holds s None) = IsSome (holder_of R s)
Allowed R (Holds s (Some t)) = IsThere R kind.Context s × IsThere R kind.Thread t × HoldsNone R t
Allowed R (Raised n badge) = IsThere R kind.Notification n × (badge.0 < 2 ^ 64)
Allowed R (Heard t n word) = IsThere R kind.Thread t × (pending R n ≡ Some word) × ((u : ObjId) → bound_of R u ≡ Some n → u ≡ t)
Allowed R (Tied t None) = IsSome (bound_of R t)
Allowed R (Tied t (Some n)) = IsThere R kind.Thread t × IsThere R kind.Notification n × (bound_of R t ≡ None) × IsUnbound R n
Allowed R (Homed s None) = IsSome (home_of R s)
Allowed R (Homed s (Some n)) = IsThere R kind.Context s × IsThere R kind.Notification n × (home_of R s ≡ None) × IsNoHome R n

-- each record was allowed when it was made
abbrev pub Sound : Log → Type 0
Sound R = Each Allowed R
