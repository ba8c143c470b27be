-- What holds of a thread that sends, of one that receives, and of who is first in a queue.
use Rattle.std.specs.Option.{IfSome}
use Rattle.std.specs.Prelude.{ℕ, Ok, Err, ◌≡◌, Bool, true, false, cond, [], ◌∷◌, Option, Some, None, IsTrue}
use Rattle.std.proofs.Common.{refl, sym, ◌∙◌, subst}
use Rattle.mcs_types.specs.Views.{Content}
use Rattle.mcs_types.specs.declared.id.ObjId.{ObjId}
use Rattle.mcs_types.specs.declared.id.Badge.{Badge}
use Rattle.mcs_types.specs.declared.id.Kind.{Kind}
use Rattle.mcs_types.specs.declared.id.Kind.TheVariants as kind
use Rattle.mcs_types.specs.declared.cap.Cap.{Cap}
use Rattle.mcs_types.specs.declared.record.Mode.{Mode}
use Rattle.mcs_types.specs.declared.record.Queue.{Queue}
use Rattle.mcs_types.specs.declared.record.Queue.TheVariants.{Senders, Receivers}
use Rattle.mcs_types.specs.declared.record.SendMode.{SendMode}
use Rattle.mcs_types.specs.declared.record.Rec.TheVariants as rec
use Rattle.mcs_types.specs.declared.entry.Answer.TheVariants.{Done, Waits}
use Rattle.mcs_types.specs.declared.entry.Refusal.TheVariants.{NoRight}
use Rattle.mcs_types.proofs.Ids.{same-self}
use Rattle.mcs_book.specs.Logs.{Log, onto}
use Rattle.mcs_book.specs.Checks.{Checked}
use Rattle.mcs_book.specs.Lookup.{capability}
use Rattle.mcs_book.specs.Rights.{may_write}
use Rattle.mcs_book.specs.Threads.{mode_of}
use Rattle.mcs_book.specs.Queues.{queue_of, first_in}
use Rattle.mcs_book.specs.Messages.{next_message, is_open, open_of}
use Rattle.mcs_book.specs.Pieces.{◌then◌}
use Rattle.mcs_book.specs.Sending.{sends_to, sends, queues}
use Rattle.mcs_book.specs.Objects.{is_alive}
use Rattle.mcs_book.specs.Table.{wakes}
use Rattle.mcs_book.specs.Sound.{Sound, Allowed, IsThere, HasNoneOpen}
use Rattle.mcs_book.proofs.SoundLogs.KeptLaws.{standing-thread}
use Rattle.mcs_book.proofs.Queues.QueueLaws.{first-stands}
use Rattle.mcs_book.proofs.Messages.MessageLaws.{sent-open}
use Rattle.mcs_book.proofs.Messages.OpenLaws.{sound-ends, open_of-growing}
use Rattle.mcs_state.specs.Now.{IsNumberOf}
use Rattle.mcs_state.specs.Checks.{kinded}
use Rattle.mcs_state.specs.Entering.{IsEntering, OpenStand}
use Rattle.mcs_state.proofs.Named.{kinded-ok, writable-ok, found-alive}
use Rattle.mcs_state.proofs.Woken.{woken, woken-there, woken-stand}
use Rattle.mcs_ipc.specs.Ready.{IsSending, IsSendingOver}
use Rattle.mcs_ipc.specs.declared.checks.Target.{Target}
use Rattle.mcs_ipc.specs.declared.checks.Target.TheVariants as target
use Rattle.mcs_ipc.specs.Rows.{target_by, target_of, sendable, callable, alone_act, send_act}

-- who is in no queue has no open message
pub none-open : (R : Log) (t : ObjId) → OpenStand R → queue_of R t ≡ None → HasNoneOpen R t
none-open R t stand none e m still = let no : None ≡ Some (Senders e) = sym none ∙ stand t e m still in absurd cc

-- who is first in a queue is a thread that is there, and is in that queue
pub first-there : (R : Log) (q : Queue) (x : ObjId) → Sound R → first_in R q ≡ Some x → IsThere R kind.Thread x × (queue_of R x ≡ Some q)
first-there R q x sound first = let stands : queue_of R x ≡ Some q = first-stands R q x first in (standing-thread R x q sound stands, stands)

-- a thread that acts may send on an endpoint that is there
pub may-send : (R : Log) (t e : ObjId) (mode : SendMode) (badge : Badge) (message : Content) → IsSending R t e → Allowed R (rec.Sent t e mode badge message)
may-send R t e mode badge message s = (s.acting.there, s.acting.idle, s.endpoint, none-open R t s.stand s.acting.idle.0)

-- the message that is just sent is the open one of its sender
pub sent-is : (R : Log) (t e : ObjId) (mode : SendMode) (badge : Badge) (message : Content) → Sound R → Allowed R (rec.Sent t e mode badge message) → IsNumberOf (next_message R) (open_of (rec.Sent t e mode badge message ∷ R) t)
sent-is R t e mode badge message sound ok = rw (open_of-growing (rec.Sent t e mode badge message ∷ R) t (ok, sound), same-self t) refl

-- and it is open
pub sent-opens : (R : Log) (t e : ObjId) (mode : SendMode) (badge : Badge) (message : Content) → Sound R → IsTrue (is_open (rec.Sent t e mode badge message ∷ R) (next_message R))
sent-opens R t e mode badge message sound = sent-open R (record { number = next_message R; sender = t; endpoint = e; mode = mode; badge = badge; message = message }) (sound-ends R sound)

-- a send where no thread receives
send-alone : (R : Log) (b : Bool) (mode : SendMode) (t e : ObjId) (badge : Badge) (message : Content) → first_in R (Receivers e) ≡ None → send_act b mode t e badge message R ≡ alone_act b mode t e badge message R
unfolding send_act sends sends_to
send-alone R b mode t e badge message none = rw none refl

-- it waits, and is in its queue
alone-waits : (R : Log) (mode : SendMode) (t e : ObjId) (badge : Badge) (message : Content)
    → alone_act true mode t e badge message R ≡ record { answer = Waits; records = rec.Sent t e mode badge message ∷ rec.Joins t (Senders e) None ∷ [] }
unfolding queues ◌then◌
alone-waits R mode t e badge message = refl

-- a reply object is there still when a thread was woken, if there is one
pub woken-reply : (R : Log) (t : ObjId) (m : Mode) (r : Option ObjId) → IfSome r (λ o. IsThere R kind.Reply o) → IfSome r (λ o. IsThere (onto (wakes m t R) R) kind.Reply o)
woken-reply R t m None there = tt
woken-reply R t m (Some r) there = woken-there R t m kind.Reply r there

-- the endpoint or the notification over which t sends is there
abbrev pub IsTargetThere : Log → Target → Type 0
IsTargetThere R (target.Endpoint c) = IsThere R kind.Endpoint c.obj
IsTargetThere R (target.Notification c) = IsThere R kind.Notification c.obj
IsTargetThere R (target.Reply r) = Unit {0}

pub target-there : (R : Log) (t : ObjId) (a : ℕ) (x : Target) → Sound R → sendable R t a ≡ Ok x → IsTargetThere R x
target-there R t a x sound e = go (capability R t a) refl e
  where
    equal : (y : Target) (m : Checked Target) → m ≡ Ok y → m ≡ Ok x → y ≡ x
    equal y m is h = cc

    is_it : (y : Target) (m : Checked Target) → m ≡ Ok y → m ≡ Ok x → IsTargetThere R y → IsTargetThere R x
    is_it y m is h there = subst (λ (z : Target). IsTargetThere R z) (equal y m is h) there

    tested : (y : Target) (b : Bool) → IsTargetThere R y → cond b (Ok y) (Err NoRight) ≡ Ok x → IsTargetThere R x
    tested y true there h = is_it y (Ok y) refl h there
    tested y false there h = absurd cc

    by_kind : (k : Kind) (c : Cap) → c.obj.kind ≡ k → is_alive R c.obj ≡ true → target_by k c ≡ Ok x → IsTargetThere R x
    by_kind kind.Endpoint c own alive h = tested (target.Endpoint c) (may_write c) (own, alive) h
    by_kind kind.Notification c own alive h = tested (target.Notification c) (may_write c) (own, alive) h
    by_kind kind.Reply c own alive h = is_it (target.Reply c.obj) (Ok (target.Reply c.obj)) refl h tt
    by_kind kind.CNode c own alive h = absurd cc
    by_kind kind.Thread c own alive h = absurd cc
    by_kind kind.Context c own alive h = absurd cc

    go : (m : Checked Cap) → capability R t a ≡ m → target_of m ≡ Ok x → IsTargetThere R x
    go (Err why) is h = absurd cc
    go (Ok c) is h = by_kind c.obj.kind c refl (found-alive R t a c sound is) h

-- and so is the one over which it calls
callable-there : (R : Log) (t : ObjId) (a : ℕ) (c : Cap) → Sound R → callable R t a ≡ Ok c → IsThere R kind.Endpoint c.obj
callable-there R t a c sound e =
    let k = kinded-ok kind.Endpoint (capability R t a) c (writable-ok (kinded kind.Endpoint (capability R t a)) c e) in
    (k.1, found-alive R t a c sound k.0)

-- once it was woken, who enters sends over an endpoint that is there
woken-over : (R : Log) (t e : ObjId) → IsEntering R t → OpenStand R → IsThere R kind.Endpoint e → IsSending (onto (wakes (mode_of R t) t R) R) t e
woken-over R t e enters stand there = record {
  acting = woken R t enters;
  stand = woken-stand R t stand;
  endpoint = woken-there R t (mode_of R t) kind.Endpoint e there;
}

-- so it does over what it named
pub woken-sends : (R : Log) (t : ObjId) (a : ℕ) (x : Target) → Sound R → IsEntering R t → OpenStand R → sendable R t a ≡ Ok x → IsSendingOver (onto (wakes (mode_of R t) t R) R) t x
woken-sends R t a x sound enters stand e = go x (target-there R t a x sound e)
  where
    go : (x : Target) → IsTargetThere R x → IsSendingOver (onto (wakes (mode_of R t) t R) R) t x
    go (target.Endpoint c) there = woken-over R t c.obj enters stand there
    go (target.Notification c) there = woken-there R t (mode_of R t) kind.Notification c.obj there
    go (target.Reply r) there = tt

-- and it calls
pub woken-calls : (R : Log) (t : ObjId) (a : ℕ) (c : Cap) → Sound R → IsEntering R t → OpenStand R → callable R t a ≡ Ok c → IsSending (onto (wakes (mode_of R t) t R) R) t c.obj
woken-calls R t a c sound enters stand e = woken-over R t c.obj enters stand (callable-there R t a c sound e)

-- it is accepted, and its sender is in its queue
pub alone-is : (R : Log) (mode : SendMode) (t e : ObjId) (badge : Badge) (message : Content) → first_in R (Receivers e) ≡ None
    → send_act true mode t e badge message R ≡ record { answer = Waits; records = rec.Sent t e mode badge message ∷ rec.Joins t (Senders e) None ∷ [] }
alone-is R mode t e badge message none = send-alone R true mode t e badge message none ∙ alone-waits R mode t e badge message

-- or it is dropped
pub dropped-is : (R : Log) (mode : SendMode) (t e : ObjId) (badge : Badge) (message : Content) → first_in R (Receivers e) ≡ None → send_act false mode t e badge message R ≡ record { answer = Done; records = [] }
dropped-is R mode t e badge message none = send-alone R false mode t e badge message none
