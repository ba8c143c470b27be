-- What each row keeps, if the steps that belong together do.
use Rattle.std.specs.Prelude.{ℕ, Bool, true, false, ◌≡◌, ◌∷◌, Option, Some, None, Ok, Err, refl}
use Rattle.std.proofs.Common.{ap}
use Rattle.mcs_types.specs.Views.{Content}
use Rattle.mcs_types.specs.declared.id.ObjId.{ObjId}
use Rattle.mcs_types.specs.declared.id.CoreId.{CoreId}
use Rattle.mcs_types.specs.declared.id.Kind.{Kind}
use Rattle.mcs_types.specs.declared.id.Kind.TheVariants.{CNode, Thread, Endpoint, Notification, Reply, Context}
use Rattle.mcs_types.specs.declared.cap.Cap.{Cap}
use Rattle.mcs_types.specs.declared.cap.Place.{Place}
use Rattle.mcs_types.specs.declared.record.Form.{Form}
use Rattle.mcs_types.specs.declared.record.SendMode.{SendMode}
use Rattle.mcs_types.specs.declared.record.SendMode.TheVariants as how
use Rattle.mcs_types.specs.declared.record.Mode.{Mode}
use Rattle.mcs_types.specs.declared.record.Mode.TheVariants.{Running, Restart, Inactive}
use Rattle.mcs_types.specs.declared.record.Queue.{Queue}
use Rattle.mcs_types.specs.declared.record.Queue.TheVariants.{Senders, Receivers, Waiters}
use Rattle.mcs_types.specs.declared.record.Rec.TheVariants as rec
use Rattle.mcs_types.specs.declared.entry.Answer.{Answer}
use Rattle.mcs_types.specs.declared.entry.Answer.TheVariants.{Done, Waits}
use Rattle.mcs_types.specs.declared.entry.Entry.{Entry}
use Rattle.mcs_types.specs.declared.entry.Entry.TheVariants.{Send, NbSend, Call, ReplyRecv, Resume, CancelBadged, NbSendRecv, NbSendWait}
use Rattle.mcs_book.specs.Logs.{Log, onto}
use Rattle.mcs_book.specs.Slots.{SlotName}
use Rattle.mcs_types.specs.declared.record.Letter.{Letter}
use Rattle.mcs_book.specs.Messages.{next_message, open_of}
use Rattle.mcs_book.specs.Queues.{first_in}
use Rattle.mcs_book.specs.Threads.{mode_of}
use Rattle.mcs_book.specs.Replies.{user_of}
use Rattle.mcs_book.specs.Checks.{Checked}
use Rattle.mcs_book.specs.Rights.{call_mode}
use Rattle.mcs_book.specs.Pieces.{Piece, ◌then◌, nothing, say, with_any, Act, answers, silently, before}
use Rattle.mcs_book.specs.Taking.{handed}
use Rattle.mcs_book.specs.Cancelling.{cancel, cancel_all, let_go, destroy}
use Rattle.mcs_book.specs.Sending.{letter_over, sent, sends_to, sends, queues, send_by, send_over}
use Rattle.mcs_book.specs.Receiving.{if_at_home, go_home, stand, joins_or, hear, take_open, open_of_any, receive_message, receive_on, free, wait_on, receive_by, receive_over, reply_receive, pay_any, send_receive}
use Rattle.mcs_book.specs.Binding.{bind_by}
use Rattle.mcs_book.specs.Contexts.{context_of}
use Rattle.mcs_book.specs.Notifications.{bound_of}
use Rattle.mcs_book.specs.Placing.{senders_with, delete, destroy_last, make}
use Rattle.mcs_book.specs.Table.{row, wakes, outcome_of, does}
use Rattle.mcs_book.proofs.Books.Checking.{OnPassed, passed-ok, passed-err, passed-after, passed-bind, passed-next}
use Rattle.mcs_book.proofs.SoundLogs.Keeping.{sent_record, onto-append, Steps, Keeps, keeps-nothing, then-next, keeps-then, keeps-any, keeps-if, keeps-say, keeps-handed, keeps-taken, keeps-pay, keeps-signal, keeps-cancel, keeps-cancel_all, keeps-unbind, keeps-destroy}

-- steps of the entering thread t: those that keep J, and those that end its entry, after which I
-- holds
pub record Entering (t : ObjId) (J I : Log → Type 0) : Type 0 where
  pub steps : Steps J
  pub ends : (R : Log) → J R → I R
  pub hands : (R : Log) (s : Letter) (p : ObjId) → s.number ≡ next_message R → s.sender ≡ t → first_in R (Receivers s.endpoint) ≡ Some p → J R → J (rec.Parts p (Receivers s.endpoint) ∷ rec.Took s.number p ∷ sent_record s ∷ R)
  pub takes : (R : Log) (e x : ObjId) (s : Letter) → first_in R (Senders e) ≡ Some x → open_of R x ≡ Some s → J R → J (rec.Parts s.sender (Senders s.endpoint) ∷ rec.Took s.number t ∷ R)
  pub sends_alone : (R : Log) (s : Letter) → s.number ≡ next_message R → s.sender ≡ t → first_in R (Receivers s.endpoint) ≡ None → J R → I (rec.Joins s.sender (Senders s.endpoint) None ∷ sent_record s ∷ R)
  pub receives : (R : Log) (e : ObjId) (r : Option ObjId) → open_of_any R (first_in R (Senders e)) ≡ None → J R → I (rec.Joins t (Receivers e) r ∷ R)
  pub waits : (R : Log) (n : ObjId) → J R → I (rec.Joins t (Waiters n) None ∷ R)
  pub gives_up : (R : Log) (s : ObjId) → I R → I (rec.Holds s None ∷ R)

-- what the entries of t keep
module _ (t : ObjId) (J I : Log → Type 0) (enters : Entering t J I) where
  -- an act that keeps it
  abbrev pub KeepsAct : Act → Type 0
  KeepsAct act = (R : Log) → J R → I (onto ((act R).records) R)

  -- a piece, and then an act
  keeps-before : (p : Piece) (act : Act) → Keeps J p → KeepsAct act → KeepsAct (before p act)
  unfolding before
  keeps-before p act hp ha R h = rw (onto-append (p R) ((act (onto (p R) R)).records) R) (ha (onto (p R) R) (hp R h))

  -- an act that only makes a piece
  ends-piece : (p : Piece) → Keeps J p → (R : Log) → J R → I (onto (p R) R)
  ends-piece p k R h = enters.ends _ (k R h)

  -- checks that were passed, and then a piece
  passed-piece : (a : Answer) (p : Piece) → Keeps J p → OnPassed KeepsAct (Ok (answers a p))
  passed-piece a p k = passed-ok _ _ (ends-piece p k)

  -- an act after which K holds
  abbrev LeadsTo : (Log → Type 0) → Act → Type 0
  LeadsTo K act = (R : Log) → J R → K (onto ((act R).records) R)

  -- the same where no thread receives on e
  abbrev AloneTo : (Log → Type 0) → ObjId → Act → Type 0
  AloneTo K e act = (R : Log) → first_in R (Receivers e) ≡ None → J R → K (onto ((act R).records) R)

  -- a message is sent, and its sender is in its queue
  keeps-queues : (cap : Cap) (mode : SendMode) (message : Content) → AloneTo I cap.obj (queues (letter_over t cap mode message))
  unfolding queues
  keeps-queues cap mode message R none h =
      then-next I (sent (letter_over t cap mode message R)) (say (rec.Joins t (Senders cap.obj) None)) R (enters.sends_alone R (letter_over t cap mode message R) refl refl none h)

  -- a message is sent
  keeps-sends : (K : Log → Type 0) → ((R : Log) → J R → K R) → (cap : Cap) (mode : SendMode) (message : Content) (answer : Answer) (alone : Act) → AloneTo K cap.obj alone → LeadsTo K (sends (letter_over t cap mode message) answer alone)
  unfolding sends sends_to
  keeps-sends K leads cap mode message answer alone ha R h = go (first_in R (Receivers cap.obj)) refl
    where
      s : Letter
      s = letter_over t cap mode message R

      go : (o : Option ObjId) → first_in R (Receivers cap.obj) ≡ o → K (onto ((sends_to s answer alone o R).records) R)
      go None is = ha R is h
      go (Some p) is = leads _ (then-next J (sent s) (handed s p) R (keeps-handed J enters.steps (sent_record s ∷ R) s p (enters.hands R s p refl refl is h)))

  -- a send, by the kind of its capability
  keeps-send_by : (K : Log → Type 0) → ((R : Log) → J R → K R) → (k : Kind) (mode : SendMode) (cap : Cap) (message : Content) (alone : Act) → AloneTo K cap.obj alone → OnPassed (LeadsTo K) (send_by k mode t cap message alone)
  unfolding send_by
  keeps-send_by K leads Endpoint mode cap message alone h = passed-next _ _ _ (passed-ok _ _ (keeps-sends K leads cap mode message Done alone h))
  keeps-send_by K leads Notification mode cap message alone h = passed-next _ _ _ (passed-ok _ _ (λ R j. leads _ (keeps-signal J enters.steps _ _ R j)))
  keeps-send_by K leads Reply mode cap message alone h = passed-ok _ _ (λ R j. leads _ (keeps-pay J enters.steps _ _ R j))
  keeps-send_by K leads CNode mode cap message alone h = passed-err _ _
  keeps-send_by K leads Thread mode cap message alone h = passed-err _ _
  keeps-send_by K leads Context mode cap message alone h = passed-err _ _

  -- t is in a queue, and may give up its context
  keeps-stand : (q : Queue) (r n : Option ObjId) (R : Log) → I (rec.Joins t q r ∷ R) → I (onto (stand t q r n R) R)
  unfolding stand go_home
  keeps-stand q r n R joined = then-next I (say (rec.Joins t q r)) (go_home t n) R (go (if_at_home (rec.Joins t q r ∷ R) n (context_of (rec.Joins t q r ∷ R) t)))
    where
      go : (o : Option ObjId) → I (onto (let_go o (rec.Joins t q r ∷ R)) (rec.Joins t q r ∷ R))
      go None = joined
      go (Some s) = enters.gives_up (rec.Joins t q r ∷ R) s joined

  -- t is in a queue, or does not block
  keeps-joins_or : (b : Bool) (p : Piece) (R : Log) → I (onto (p R) R) → J R → I (onto ((joins_or b p R).records) R)
  unfolding joins_or
  keeps-joins_or true p R joined h = joined
  keeps-joins_or false p R joined h = enters.ends R h

  -- a pending word comes first
  keeps-hear : (n : Option ObjId) (word : Option ℕ) (otherwise : Act) (R : Log) → J R → I (onto ((otherwise R).records) R) → I (onto ((hear t n word otherwise R).records) R)
  unfolding hear
  keeps-hear (Some n) (Some word) otherwise R h ho = enters.ends _ (enters.steps.aside R _ refl h)
  keeps-hear None word otherwise R h ho = ho
  keeps-hear (Some n) None otherwise R h ho = ho

  -- the open message of the first sender, if there is one
  keeps-take_open : (R : Log) (e : ObjId) (r : Option ObjId) (blocking : Bool) (x : Option ObjId) → first_in R (Senders e) ≡ x → J R
      → I (onto ((take_open t r (open_of_any R x) (joins_or blocking (stand t (Receivers e) r (bound_of R t))) R).records) R)
  unfolding take_open
  keeps-take_open R e r blocking None first h = keeps-joins_or blocking _ R (keeps-stand (Receivers e) r (bound_of R t) R (enters.receives R e r (ap (λ x. open_of_any R x) first) h)) h
  keeps-take_open R e r blocking (Some x) first h = go (open_of R x) refl
    where
      go : (o : Option Letter) → open_of R x ≡ o → I (onto ((take_open t r o (joins_or blocking (stand t (Receivers e) r (bound_of R t))) R).records) R)
      go None is = keeps-joins_or blocking _ R (keeps-stand (Receivers e) r (bound_of R t) R (enters.receives R e r (rw first is) h)) h
      go (Some s) is = enters.ends _ (keeps-taken J enters.steps R s t r (enters.takes R e x s first is h))

  -- a receive
  keeps-receive_message : (e : ObjId) (r : Option ObjId) (blocking : Bool) → KeepsAct (receive_message t e r blocking)
  unfolding receive_message
  keeps-receive_message e r blocking R h = keeps-hear _ _ _ R h (keeps-take_open R e r blocking (first_in R (Senders e)) refl h)

  -- a reply object is freed
  keeps-free : (r : ObjId) → Keeps J (free r)
  unfolding free
  keeps-free r R = keeps-any J (user_of R r) _ (λ x. keeps-cancel J enters.steps x Inactive) R

  -- a receive with a reply object
  keeps-receive_on : (e : ObjId) (r : Option ObjId) (blocking : Bool) → KeepsAct (receive_on t e r blocking)
  unfolding receive_on
  keeps-receive_on e r blocking = keeps-before (with_any r free) _ (keeps-any J r free keeps-free) (keeps-receive_message e r blocking)

  -- a wait
  keeps-wait_on : (n : ObjId) (blocking : Bool) → KeepsAct (wait_on t n blocking)
  unfolding wait_on
  keeps-wait_on n blocking R h = keeps-hear _ _ _ R h (keeps-joins_or blocking _ R (keeps-stand (Waiters n) None (Some n) R (enters.waits R n h)) h)

  -- a receive, by the kind of its source
  keeps-receive_by : (k : Kind) (R : Log) (cap : Cap) (reply : Checked (Option ObjId)) (blocking : Bool) → OnPassed KeepsAct (receive_by k R t cap reply blocking)
  unfolding receive_by
  keeps-receive_by Endpoint R cap reply blocking = passed-next _ _ _ (passed-bind _ _ _ (λ r. passed-ok _ _ (keeps-receive_on cap.obj r blocking)))
  keeps-receive_by Notification R cap reply blocking = passed-next _ _ _ (passed-next _ _ _ (passed-ok _ _ (keeps-wait_on cap.obj blocking)))
  keeps-receive_by CNode R cap reply blocking = passed-err _ _
  keeps-receive_by Thread R cap reply blocking = passed-err _ _
  keeps-receive_by Reply R cap reply blocking = passed-err _ _
  keeps-receive_by Context R cap reply blocking = passed-err _ _

  -- a receive over a capability
  keeps-receive_over : (R : Log) (cap : Cap) (reply : Checked (Option ObjId)) (blocking : Bool) → OnPassed KeepsAct (receive_over R t cap reply blocking)
  unfolding receive_over
  keeps-receive_over R cap reply blocking = keeps-receive_by cap.obj.kind R cap reply blocking

  -- an object ends with its last capability
  keeps-destroy_last : (o : ObjId) → Keeps J (destroy_last o)
  unfolding destroy_last
  keeps-destroy_last o R = keeps-if J _ (destroy o) nothing (keeps-destroy J enters.steps o) (keeps-nothing J) R

  -- a capability is deleted
  keeps-delete : (at : SlotName) (held : Option Cap) → KeepsAct (delete at held)
  unfolding delete
  keeps-delete at None = ends-piece nothing (keeps-nothing J)
  keeps-delete at (Some cap) = ends-piece (say (rec.Slot at.cnode at.index None) then destroy_last cap.obj) (keeps-then J _ _ (keeps-say J enters.steps _ refl) (keeps-destroy_last cap.obj))

  -- an object is made
  keeps-make : (R : Log) (k : Kind) (rights : ℕ) (form : Form) (place : Place) → OnPassed KeepsAct (make R t k rights form place)
  unfolding make
  keeps-make R k rights form place =
      passed-bind _ _ _ (λ at. passed-next _ _ _ (passed-next _ _ _ (passed-piece _ _ (keeps-then J _ _ (keeps-say J enters.steps _ refl) (keeps-say J enters.steps _ refl)))))

  -- a context is bound, by the kind of what it is bound to
  keeps-bind_by : (k : Kind) (R : Log) (s o : ObjId) → OnPassed KeepsAct (bind_by k R s o)
  unfolding bind_by
  keeps-bind_by Thread R s o = passed-next _ _ _ (passed-piece _ _ (keeps-say J enters.steps _ refl))
  keeps-bind_by Notification R s o = passed-next _ _ _ (passed-piece _ _ (keeps-say J enters.steps _ refl))
  keeps-bind_by CNode R s o = passed-err _ _
  keeps-bind_by Endpoint R s o = passed-err _ _
  keeps-bind_by Reply R s o = passed-err _ _
  keeps-bind_by Context R s o = passed-err _ _

  -- sends, and then receives
  keeps-send_receive : (R : Log) (sending : Checked Act) (address : ℕ) (reply : Checked (Option ObjId)) → OnPassed (LeadsTo J) sending → OnPassed KeepsAct (send_receive R t sending address reply)
  unfolding send_receive
  keeps-send_receive R sending address reply h = passed-after (LeadsTo J) KeepsAct sending _ h (λ send k. passed-bind _ _ _ (λ source.
      passed-after KeepsAct _ _ _ (keeps-receive_over R source reply true) (λ act k'. passed-ok _ _ (keeps-before (silently send) act k k'))))

  -- what each row does, where its checks are passed
  pub keeps-row : (R : Log) (core : CoreId) (entry : Entry) → OnPassed KeepsAct (row R core t entry)
  unfolding row send_over reply_receive
  keeps-row R core (Send a message) = passed-bind _ _ _ (λ cap. keeps-send_by I enters.ends cap.obj.kind how.Plain cap message _ (keeps-queues cap how.Plain message))
  keeps-row R core (NbSend a message) = passed-bind _ _ _ (λ cap. keeps-send_by I enters.ends cap.obj.kind how.Plain cap message _ (λ R none h. enters.ends R h))
  keeps-row R core (Call a message) = passed-bind _ _ _ (λ cap. passed-next _ _ _ (passed-ok _ _ (keeps-sends I enters.ends cap (call_mode cap) message Waits _ (keeps-queues cap (call_mode cap) message))))
  keeps-row R core (ReplyRecv a r message) = passed-bind _ _ _ (λ cap. passed-next _ _ _ (passed-next _ _ _ (passed-bind _ _ _ (λ o.
      passed-after KeepsAct _ _ _ (keeps-receive_over R cap (Ok o) true) (λ act k. passed-ok _ _ (keeps-before (pay_any o message) act (keeps-any J o _ (λ x. keeps-pay J enters.steps x message)) k))))))
  keeps-row R core (Resume x) = passed-bind _ _ _ (λ thread. passed-piece _ _ (keeps-if J _ nothing (cancel thread.obj Restart) (keeps-nothing J) (keeps-cancel J enters.steps _ _)))
  keeps-row R core (CancelBadged a) = passed-bind _ _ _ (λ cap. passed-next _ _ _ (passed-piece _ _ (keeps-if J _ nothing (cancel_all (senders_with R cap.obj cap.badge.0) Restart) (keeps-nothing J) (keeps-cancel_all J enters.steps _ _))))
  keeps-row R core (NbSendRecv a source r message) = keeps-send_receive R _ source _ (passed-bind _ _ _ (λ cap. keeps-send_by J (λ R h. h) cap.obj.kind how.Give cap message _ (λ R none h. h)))
  keeps-row R core (NbSendWait a source message) = keeps-send_receive R _ source _ (passed-bind _ _ _ (λ cap. keeps-send_by J (λ R h. h) cap.obj.kind how.Give cap message _ (λ R none h. h)))
  keeps-row R core _ = search (passed-bind, passed-next, passed-ok, passed-piece, keeps-say J enters.steps, keeps-signal J enters.steps, keeps-cancel J enters.steps, keeps-unbind J enters.steps, keeps-then J, keeps-receive_over, keeps-bind_by, keeps-delete, keeps-make) depth 9

  -- a thread becomes Running with its entry
  keeps-wakes : (mode : Mode) → Keeps J (wakes mode t)
  keeps-wakes Restart = keeps-say J enters.steps _ refl
  keeps-wakes Running = keeps-nothing J
  keeps-wakes Inactive = keeps-nothing J

  -- what each entry does
  pub keeps-does : (R : Log) (core : CoreId) (entry : Entry) → J R → I (onto ((does R core t entry).records) R)
  unfolding does OnPassed
  keeps-does R core entry h = go (row R core t entry) (keeps-row R core entry)
    where
      go : (m : Checked Act) → OnPassed KeepsAct m → I (onto ((outcome_of R t m).records) R)
      go (Ok act) k = keeps-before (wakes (mode_of R t) t) act (keeps-wakes (mode_of R t)) k R h
      go (Err refusal) k = enters.ends R h
