-- Each message of a legal book has few words, each of 64 bits: in a record, and in an answer.
use Rattle.std.specs.Prelude.{ℕ, Bool, true, false, cond, ◌≡◌, List, [], ◌∷◌, Option, Some, None, Ok, Err, refl, find}
use Rattle.std.proofs.Common.{subst}
use Rattle.mcs_types.specs.Ranges.{IsMessage}
use Rattle.mcs_types.specs.Views.{Content}
use Rattle.mcs_types.specs.declared.id.ObjId.{ObjId}
use Rattle.mcs_types.specs.declared.id.CoreId.{CoreId}
use Rattle.mcs_types.specs.declared.id.Kind.{Kind}
use Rattle.mcs_types.specs.declared.id.Kind.TheVariants as kind
use Rattle.mcs_types.specs.declared.cap.Cap.{Cap}
use Rattle.mcs_types.specs.declared.cap.Place.{Place}
use Rattle.mcs_types.specs.declared.record.Form.{Form}
use Rattle.mcs_types.specs.declared.record.Letter.{Letter}
use Rattle.mcs_types.specs.declared.record.SendMode.{SendMode}
use Rattle.mcs_types.specs.declared.record.Queue.TheVariants.{Senders, Receivers}
use Rattle.mcs_types.specs.declared.record.Rec.{Rec}
use Rattle.mcs_types.specs.declared.record.Rec.TheVariants as rec
use Rattle.mcs_types.specs.declared.entry.Entry.{Entry}
use Rattle.mcs_types.specs.declared.entry.Entry.TheVariants.{Send, NbSend, Call, ReplyRecv}
use Rattle.mcs_types.specs.declared.entry.Answer.{Answer}
use Rattle.mcs_types.specs.declared.entry.Answer.TheVariants as ans
use Rattle.mcs_book.specs.Logs.{Log, onto}
use Rattle.mcs_book.specs.Slots.{SlotName}
use Rattle.mcs_book.specs.Threads.{mode_of}
use Rattle.mcs_book.specs.Queues.{first_in}
use Rattle.mcs_book.specs.Messages.{letters, next_message, open_of}
use Rattle.mcs_book.specs.Notifications.{bound_of, pending}
use Rattle.mcs_book.specs.Checks.{Checked}
use Rattle.mcs_book.specs.Pieces.{Piece, Act, answers, silently, before, with_any}
use Rattle.mcs_book.specs.Sending.{sends_to, sends, queues, send_by, send_over}
use Rattle.mcs_book.specs.Taking.{taken}
use Rattle.mcs_book.specs.Receiving.{stand, joins_or, hear, take_open, open_of_any, pending_of_any, receive_message, receive_on, free, wait_on, receive_by, receive_over, reply_receive, send_receive, pay_any}
use Rattle.mcs_book.specs.Placing.{delete, make}
use Rattle.mcs_book.specs.Binding.{bind_by}
use Rattle.mcs_book.specs.Table.{row, wakes, outcome_of, does}
use Rattle.mcs_book.specs.Each.{Each}
use Rattle.mcs_book.proofs.Books.Checking.{OnPassed, passed-ok, passed-err, passed-after, passed-bind, passed-next}
use Rattle.mcs_book.proofs.SoundLogs.Keeping.{onto-append}

-- ---- records

-- the message of a record is in its ranges: it has at most as many words as a message may have,
-- each of 64 bits
abbrev pub HasFewWords : Log → Rec → Type 0
HasFewWords R (rec.Sent x e mode badge message) = IsMessage message
HasFewWords R (rec.Paid r x message) = IsMessage message
HasFewWords R _ = Unit {0}

-- so has a message that is found among those sent
found-few : (p : Letter → Bool) (R : Log) (s : Letter) → Each HasFewWords R → find p (letters R) ≡ Some s → IsMessage s.message
found-few p [] s few h = absurd cc
found-few p (rec.Sent x e mode badge message ∷ R) s few h = go (p new) h (found-few p R s few.1)
  where
    new : Letter
    new = record { number = next_message R; sender = x; endpoint = e; mode = mode; badge = badge; message = message }

    go : (b : Bool) → cond b (Some new) (find p (letters R)) ≡ Some s → (find p (letters R) ≡ Some s → IsMessage s.message) → IsMessage s.message
    go true is later = let it : new ≡ s = cc in subst (λ (l : Letter). IsMessage l.message) it few.0
    go false is later = later is
found-few p (_ ∷ R) s few h = found-few p R s few.1 h

-- so has an open message of somebody
open-few : (R : Log) (x : Option ObjId) (s : Letter) → Each HasFewWords R → open_of_any R x ≡ Some s → IsMessage s.message
unfolding open_of
open-few R None s few h = absurd cc
open-few R (Some x) s few h = found-few _ R s few h

-- what holds of a longer log holds of those before
each-before : (P : Log → Rec → Type 0) (R : Log) (made : List Rec) → Each P (onto made R) → Each P R
each-before P R [] h = h
each-before P R (r ∷ made) h = (each-before P (r ∷ R) made h).1

-- ---- answers

-- so is the message of an answer
abbrev pub FewAnswer : Answer → Type 0
FewAnswer (ans.Got b m) = IsMessage m
FewAnswer _ = Unit {0}

-- an act answers few words after a log, where all messages have few
abbrev FewAt : Log → Act → Type 0
FewAt W act = Each HasFewWords (onto ((act W).records) W) → FewAnswer ((act W).answer)

-- so it does after any log
record FewAct (act : Act) : Type 0 where
  at : (W : Log) → FewAt W act

-- an act that answers so
few-answers : (a : Answer) (p : Piece) → FewAnswer a → FewAct (answers a p)
few-answers a p h = record { at = λ W few. h }

-- a piece, and then an act
few-before : (p : Piece) (act : Act) → FewAct act → FewAct (before p act)
unfolding before
few-before p act h = record { at = λ W few. h.at (onto (p W) W) (rw (onto-append (p W) ((act (onto (p W) W)).records) W) at few) }

-- a sender that is in line
few-queues : (letter : Log → Letter) → FewAct (queues letter)
unfolding queues
few-queues letter = record { at = λ W few. tt }

-- a message is sent over an endpoint
few-sends : (letter : Log → Letter) (a : Answer) (alone : Act) → FewAnswer a → FewAct alone → FewAct (sends letter a alone)
unfolding sends sends_to
few-sends letter a alone h k = record { at = λ W. go W (first_in W (Receivers ((letter W).endpoint))) }
  where
    go : (W : Log) (o : Option ObjId) → FewAt W (sends_to (letter W) a alone o)
    go W (Some p) few = h
    go W None few = k.at W few

-- a send, by the kind of its capability
few-send_by : (kd : Kind) (mode : SendMode) (t : ObjId) (cap : Cap) (message : Content) (alone : Act) → FewAct alone → OnPassed FewAct (send_by kd mode t cap message alone)
unfolding send_by
few-send_by kind.Endpoint mode t cap message alone h = passed-next _ _ _ (passed-ok _ _ (few-sends _ ans.Done alone tt h))
few-send_by kind.Notification mode t cap message alone h = passed-next _ _ _ (passed-ok _ _ (few-answers ans.Done _ tt))
few-send_by kind.Reply mode t cap message alone h = passed-ok _ _ (few-answers ans.Done _ tt)
few-send_by kind.CNode mode t cap message alone h = passed-err _ _
few-send_by kind.Thread mode t cap message alone h = passed-err _ _
few-send_by kind.Context mode t cap message alone h = passed-err _ _

-- a send over a capability
few-send_over : (mode : SendMode) (t : ObjId) (cap : Cap) (message : Content) (alone : Act) → FewAct alone → OnPassed FewAct (send_over mode t cap message alone)
unfolding send_over
few-send_over mode t cap message alone h = few-send_by cap.obj.kind mode t cap message alone h

-- one that blocks, or is answered that nothing is there
few-joins : (blocking : Bool) (stands : Piece) (W : Log) → FewAt W (joins_or blocking stands)
unfolding joins_or
few-joins true stands W few = tt
few-joins false stands W few = tt

-- a word is heard, or else
few-hear : (W : Log) (t : ObjId) (n : Option ObjId) (word : Option ℕ) (otherwise : Act) → FewAt W otherwise → FewAt W (hear t n word otherwise)
unfolding hear
few-hear W t (Some n) (Some word) otherwise h few = tt
few-hear W t (Some n) None otherwise h few = h few
few-hear W t None word otherwise h few = h few

-- an open message is taken, or else
few-take : (W : Log) (t : ObjId) (r x : Option ObjId) (otherwise : Act) (o : Option Letter) → open_of_any W x ≡ o → FewAt W otherwise → FewAt W (take_open t r o otherwise)
unfolding take_open
few-take W t r x otherwise (Some s) is h few = open-few W x s (each-before HasFewWords W (taken s t r W) few) is
few-take W t r x otherwise None is h few = h few

-- a receive on an endpoint
few-receive_message : (t e : ObjId) (r : Option ObjId) (blocking : Bool) → FewAct (receive_message t e r blocking)
unfolding receive_message
few-receive_message t e r blocking = record {
  at = λ W. few-hear W t (bound_of W t) (pending_of_any W (bound_of W t)) _ (few-take W t r (first_in W (Senders e)) _ (open_of_any W (first_in W (Senders e))) refl (few-joins blocking (stand t (Receivers e) r (bound_of W t)) W));
}

-- a receive, after its reply object was freed
few-receive_on : (t e : ObjId) (r : Option ObjId) (blocking : Bool) → FewAct (receive_on t e r blocking)
unfolding receive_on
few-receive_on t e r blocking = few-before (with_any r free) _ (few-receive_message t e r blocking)

-- a wait on a notification
few-wait_on : (t n : ObjId) (blocking : Bool) → FewAct (wait_on t n blocking)
unfolding wait_on
few-wait_on t n blocking = record { at = λ W. few-hear W t (Some n) (pending W n) _ (few-joins blocking _ W) }

-- a receive, by the kind of its source
few-receive_by : (kd : Kind) (R : Log) (t : ObjId) (cap : Cap) (reply : Checked (Option ObjId)) (blocking : Bool) → OnPassed FewAct (receive_by kd R t cap reply blocking)
unfolding receive_by
few-receive_by kind.Endpoint R t cap reply blocking = passed-next _ _ _ (passed-bind _ _ _ (λ r. passed-ok _ _ (few-receive_on t cap.obj r blocking)))
few-receive_by kind.Notification R t cap reply blocking = passed-next _ _ _ (passed-next _ _ _ (passed-ok _ _ (few-wait_on t cap.obj blocking)))
few-receive_by kind.CNode R t cap reply blocking = passed-err _ _
few-receive_by kind.Thread R t cap reply blocking = passed-err _ _
few-receive_by kind.Reply R t cap reply blocking = passed-err _ _
few-receive_by kind.Context R t cap reply blocking = passed-err _ _

-- a receive over a capability
few-receive_over : (R : Log) (t : ObjId) (cap : Cap) (reply : Checked (Option ObjId)) (blocking : Bool) → OnPassed FewAct (receive_over R t cap reply blocking)
unfolding receive_over
few-receive_over R t cap reply blocking = few-receive_by cap.obj.kind R t cap reply blocking

-- pays, and then receives
few-reply_receive : (R : Log) (t : ObjId) (cap : Cap) (address : ℕ) (message : Content) → OnPassed FewAct (reply_receive R t cap address message)
unfolding reply_receive
few-reply_receive R t cap address message =
    passed-next _ _ _ (passed-next _ _ _ (passed-bind _ _ _ (λ r. passed-after FewAct FewAct _ _ (few-receive_over R t cap (Ok r) true) (λ act h. passed-ok _ _ (few-before (pay_any r message) act h)))))

-- sends, and then receives
few-send_receive : (R : Log) (t : ObjId) (sending : Checked Act) (address : ℕ) (reply : Checked (Option ObjId)) → OnPassed FewAct (send_receive R t sending address reply)
unfolding send_receive
few-send_receive R t sending address reply =
    passed-bind _ _ _ (λ send. passed-bind _ _ _ (λ source. passed-after FewAct FewAct _ _ (few-receive_over R t source reply true) (λ act h. passed-ok _ _ (few-before (silently send) act h))))

-- an act that is done
few-done : (p : Piece) → OnPassed FewAct (Ok (answers ans.Done p))
few-done p = passed-ok FewAct _ (few-answers ans.Done p tt)

-- a capability is deleted
few-delete : (at : SlotName) (held : Option Cap) → FewAct (delete at held)
unfolding delete
few-delete at None = few-answers ans.Done _ tt
few-delete at (Some cap) = few-answers ans.Done _ tt

-- an object is made
few-make : (R : Log) (t : ObjId) (kd : Kind) (rights : ℕ) (f : Form) (place : Place) → OnPassed FewAct (make R t kd rights f place)
unfolding make
few-make R t kd rights f place = passed-bind _ _ _ (λ at. passed-next _ _ _ (passed-next _ _ _ (few-done _)))

-- a context is bound
few-bind_by : (kd : Kind) (R : Log) (s o : ObjId) → OnPassed FewAct (bind_by kd R s o)
unfolding bind_by
few-bind_by kind.Thread R s o = passed-next _ _ _ (few-done _)
few-bind_by kind.Notification R s o = passed-next _ _ _ (few-done _)
few-bind_by kind.CNode R s o = passed-err _ _
few-bind_by kind.Endpoint R s o = passed-err _ _
few-bind_by kind.Reply R s o = passed-err _ _
few-bind_by kind.Context R s o = passed-err _ _

-- what a row of the table does
few-row : (R : Log) (core : CoreId) (t : ObjId) (e : Entry) → OnPassed FewAct (row R core t e)
unfolding row
few-row R core t (Send a message) = passed-bind _ _ _ (λ cap. few-send_over _ t cap message _ (few-queues _))
few-row R core t (NbSend a message) = passed-bind _ _ _ (λ cap. few-send_over _ t cap message _ (few-answers ans.Done _ tt))
few-row R core t (Call a message) = passed-bind _ _ _ (λ cap. passed-next _ _ _ (passed-ok _ _ (few-sends _ ans.Waits _ tt (few-queues _))))
few-row R core t (ReplyRecv a r message) = passed-bind _ _ _ (λ cap. few-reply_receive R t cap r message)
few-row R core t _ = search (passed-bind, passed-next, passed-ok, few-done, few-receive_over, few-bind_by, few-delete, few-make, few-send_receive) depth 9

-- an entry answers few words, where all messages have few
pub few-does : (R : Log) (core : CoreId) (t : ObjId) (e : Entry) → Each HasFewWords (onto ((does R core t e).records) R) → FewAnswer ((does R core t e).answer)
unfolding does OnPassed
few-does R core t e = go (row R core t e) (few-row R core t e)
  where
    go : (m : Checked Act) → OnPassed FewAct m → Each HasFewWords (onto ((outcome_of R t m).records) R) → FewAnswer ((outcome_of R t m).answer)
    go (Ok act) h few = (few-before (wakes (mode_of R t) t) act h).at R few
    go (Err refusal) h few = tt
