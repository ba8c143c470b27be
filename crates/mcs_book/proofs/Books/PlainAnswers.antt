-- Which entries are answered without a message.
use Rattle.std.specs.Prelude.{ℕ, true, false, ◌≡◌, Option, Some, None, Ok, Err}
use Rattle.mcs_types.specs.Views.{Content}
use Rattle.mcs_types.specs.Brings.{receives, IsPlain}
use Rattle.mcs_types.specs.declared.id.ObjId.{ObjId}
use Rattle.mcs_types.specs.declared.id.CoreId.{CoreId}
use Rattle.mcs_types.specs.declared.id.Kind.{Kind}
use Rattle.mcs_types.specs.declared.id.Kind.TheVariants.{CNode, Thread, Endpoint, Notification, Reply, Context}
use Rattle.mcs_types.specs.declared.cap.Cap.{Cap}
use Rattle.mcs_types.specs.declared.cap.Place.{Place}
use Rattle.mcs_types.specs.declared.record.Form.{Form}
use Rattle.mcs_types.specs.declared.record.Letter.{Letter}
use Rattle.mcs_types.specs.declared.record.SendMode.{SendMode}
use Rattle.mcs_types.specs.declared.record.Queue.TheVariants.{Receivers}
use Rattle.mcs_types.specs.declared.entry.Answer.{Answer}
use Rattle.mcs_types.specs.declared.entry.Entry.{Entry}
use Rattle.mcs_types.specs.declared.entry.Entry.TheVariants.{Send, NbSend, Call}
use Rattle.mcs_book.specs.Logs.{Log}
use Rattle.mcs_book.specs.Slots.{SlotName}
use Rattle.mcs_book.specs.Queues.{first_in}
use Rattle.mcs_book.specs.Checks.{Checked}
use Rattle.mcs_book.specs.Pieces.{Act, before}
use Rattle.mcs_book.specs.Sending.{sends_to, sends, queues, send_by, send_over}
use Rattle.mcs_book.specs.Placing.{delete, make}
use Rattle.mcs_book.specs.Binding.{bind_by}
use Rattle.mcs_book.specs.Table.{row, outcome_of, does}
use Rattle.mcs_book.proofs.Books.Checking.{OnPassed, passed-ok, passed-err, passed-bind, passed-next}

-- an act that is answered without a message
abbrev PlainAct : Act → Type 0
PlainAct act = (S : Log) → IsPlain ((act S).answer)

-- a message is taken by a receiver, or else the sender does as said
plain-sends_to : (s : Letter) (answer : Answer) (alone : Act) (o : Option ObjId) → IsPlain answer → PlainAct alone → PlainAct (sends_to s answer alone o)
unfolding sends_to
plain-sends_to s answer alone (Some p) h k = λ S. h
plain-sends_to s answer alone None h k = k

-- a message is sent
plain-sends : (letter : Log → Letter) (answer : Answer) (alone : Act) → IsPlain answer → PlainAct alone → PlainAct (sends letter answer alone)
unfolding sends
plain-sends letter answer alone h k = λ S. plain-sends_to (letter S) answer alone (first_in S (Receivers ((letter S).endpoint))) h k S

-- its sender is in its queue
plain-queues : (letter : Log → Letter) → PlainAct (queues letter)
unfolding queues
plain-queues letter = λ S. tt

-- a send over a capability of some kind
plain-send_by : (k : Kind) (mode : SendMode) (t : ObjId) (held : Cap) (message : Content) (alone : Act) → PlainAct alone → OnPassed PlainAct (send_by k mode t held message alone)
unfolding send_by
plain-send_by Endpoint mode t held message alone h = passed-next _ _ _ (passed-ok _ _ (plain-sends _ _ alone tt h))
plain-send_by Notification mode t held message alone h = passed-next _ _ _ (passed-ok _ _ (λ S. tt))
plain-send_by Reply mode t held message alone h = passed-ok _ _ (λ S. tt)
plain-send_by CNode mode t held message alone h = passed-err _ _
plain-send_by Thread mode t held message alone h = passed-err _ _
plain-send_by Context mode t held message alone h = passed-err _ _

-- a capability is deleted
plain-delete : (at : SlotName) (held : Option Cap) → PlainAct (delete at held)
unfolding delete
plain-delete at None = λ S. tt
plain-delete at (Some cap) = λ S. tt

-- an object is made
plain-make : (R : Log) (t : ObjId) (kind : Kind) (rights : ℕ) (form : Form) (place : Place) → OnPassed PlainAct (make R t kind rights form place)
unfolding make
plain-make R t kind rights form place = passed-bind _ _ _ (λ at. passed-next _ _ _ (passed-next _ _ _ (passed-ok _ _ (λ S. tt))))

-- a context is bound
plain-bind_by : (k : Kind) (R : Log) (s o : ObjId) → OnPassed PlainAct (bind_by k R s o)
unfolding bind_by
plain-bind_by Thread R s o = passed-next _ _ _ (passed-ok _ _ (λ S. tt))
plain-bind_by Notification R s o = passed-next _ _ _ (passed-ok _ _ (λ S. tt))
plain-bind_by CNode R s o = passed-err _ _
plain-bind_by Endpoint R s o = passed-err _ _
plain-bind_by Reply R s o = passed-err _ _
plain-bind_by Context R s o = passed-err _ _

-- an entry that receives is none of them
never : (P : Act → Type 0) (m : Checked Act) → true ≡ false → OnPassed P m
never P m is = absurd cc

-- what each row answers, where its checks are passed
plain-row : (R : Log) (core : CoreId) (t : ObjId) (entry : Entry) → receives entry ≡ false → OnPassed PlainAct (row R core t entry)
unfolding row send_over
plain-row R core t (Send a message) is = passed-bind _ _ _ (λ held. plain-send_by held.obj.kind _ t held message _ (plain-queues _))
plain-row R core t (NbSend a message) is = passed-bind _ _ _ (λ held. plain-send_by held.obj.kind _ t held message _ (λ S. tt))
plain-row R core t (Call a message) is = passed-bind _ _ _ (λ held. passed-next _ _ _ (passed-ok _ _ (plain-sends _ _ _ tt (plain-queues _))))
plain-row R core t _ is = search (never, passed-bind, passed-next, passed-ok, plain-make, plain-delete, plain-bind_by) depth 9

-- the law: who does not receive is answered without a message
pub does-plain : (R : Log) (core : CoreId) (t : ObjId) (entry : Entry) → receives entry ≡ false → IsPlain ((does R core t entry).answer)
unfolding does OnPassed before
does-plain R core t entry is = go (row R core t entry) (plain-row R core t entry is)
  where
    go : (m : Checked Act) → OnPassed PlainAct m → IsPlain ((outcome_of R t m).answer)
    go (Ok act) k = k _
    go (Err refusal) k = tt
