-- The rows of the table are what the code does.
use Rattle.std.specs.Prelude.{ℕ, ◌≡◌, ◌||◌, Bool, true, false, cond, not, Option, Some, None, Ok, Err}
use Rattle.std.proofs.Common.{refl, ap, sym, ◌∙◌}
use Rattle.mcs_types.specs.Views.{Content}
use Rattle.mcs_types.specs.declared.id.ObjId.{ObjId}
use Rattle.mcs_types.specs.declared.id.CoreId.{CoreId}
use Rattle.mcs_types.specs.declared.id.Kind.{Kind}
use Rattle.mcs_types.specs.declared.id.Kind.TheVariants as kind
use Rattle.mcs_types.specs.declared.cap.Cap.{Cap}
use Rattle.mcs_types.specs.declared.record.SendMode.{SendMode}
use Rattle.mcs_types.specs.declared.record.SendMode.TheVariants as how
use Rattle.mcs_types.specs.declared.entry.Answer.TheVariants.{Done, Waits}
use Rattle.mcs_types.specs.declared.entry.Entry.TheVariants.{Call, ReplyRecv}
use Rattle.mcs_types.specs.declared.entry.Refusal.TheVariants.{WrongKind, NoRight, AlreadyBound}
use Rattle.mcs_types.specs.Ids.{same_kind}
use Rattle.mcs_book.specs.Logs.{Log}
use Rattle.mcs_book.specs.Checks.{Checked, ◌>>=◌, ◌>>◌, need}
use Rattle.mcs_book.specs.Rights.{may_write, may_read, may_be_answered, call_mode, can_badge}
use Rattle.mcs_book.specs.Lookup.{capability}
use Rattle.mcs_book.specs.Pieces.{with_any, Act, silently, before}
use Rattle.mcs_book.specs.Notifications.{tied_to}
use Rattle.mcs_book.specs.Sending.{letter_over, sends, queues, send_by, send_over}
use Rattle.mcs_book.specs.Receiving.{bound_elsewhere, may_wait, receive_by, receive_over, reply_at, receive_on, free, receive_message, wait_on, pay_any, reply_receive, send_receive}
use Rattle.mcs_book.specs.Taking.{pay}
use Rattle.mcs_book.specs.Table.{row}
use Rattle.mcs_state.specs.Checks.{kinded, writable, readable, object_found, object_named, act_of}
use Rattle.mcs_notify.specs.Rows.{signal_act}
use Rattle.mcs_state.proofs.Named.{bind-ok, bind-err, object-is}
use Rattle.mcs_ipc.specs.declared.checks.Exchange.{Exchange}
use Rattle.mcs_ipc.specs.declared.checks.Replying.{Replying}
use Rattle.mcs_ipc.specs.declared.checks.Source.{Source}
use Rattle.mcs_ipc.specs.declared.checks.Source.TheVariants as source
use Rattle.mcs_ipc.specs.declared.checks.Target.{Target}
use Rattle.mcs_ipc.specs.declared.checks.Target.TheVariants as target
use Rattle.mcs_ipc.specs.Sources.{reply_found, reply_named, with_reply, waitable, source_by, source_over, receivable, second_found, replying, replying_by, replying_over, answerable, exchange_found, exchangeable}
use Rattle.mcs_ipc.specs.Rows.{target_by, target_of, sendable, callable, answer_to, send_entry, receive_entry, exchange_entry, alone_act, send_act, pay_act, target_act, receive_act, source_act, reply_receive_act, exchange_act}

-- a test, and then an act
tested : (b : Bool) (x : Target) (f : Target → Act) → (need b NoRight >> Ok (f x)) ≡ act_of (cond b (Ok x) (Err NoRight)) f
unfolding ◌>>◌ need
tested true x f = refl
tested false x f = refl

-- a send over a capability of each kind, in a mode that is answered at once
sent-over : (k : Kind) (b : Bool) (mode : SendMode) (t : ObjId) (c : Cap) (message : Content) → answer_to mode ≡ Done → send_by k mode t c message (alone_act b mode t c.obj c.badge message) ≡ act_of (target_by k c) (target_act b mode t message)
unfolding send_by send_act signal_act pay_act ◌>>◌ need
sent-over kind.Endpoint b mode t c message done =
    ap (λ answer. need (may_write c) NoRight >> Ok (sends (letter_over t c mode message) answer (alone_act b mode t c.obj c.badge message))) (sym done)
    ∙ tested (may_write c) (target.Endpoint c) (target_act b mode t message)
sent-over kind.Notification b mode t c message done = tested (may_write c) (target.Notification c) (target_act b mode t message)
sent-over kind.Reply b mode t c message done = refl
sent-over kind.CNode b mode t c message done = refl
sent-over kind.Thread b mode t c message done = refl
sent-over kind.Context b mode t c message done = refl

-- a send over what was found
sent-found : (b : Bool) (mode : SendMode) (t : ObjId) (message : Content) (m : Checked Cap) → answer_to mode ≡ Done
    → (m >>= λ c. send_by c.obj.kind mode t c message (alone_act b mode t c.obj c.badge message)) ≡ act_of (target_of m) (target_act b mode t message)
sent-found b mode t message (Err why) done = bind-err why _
sent-found b mode t message (Ok c) done = bind-ok c _ ∙ sent-over c.obj.kind b mode t c message done

-- the rows of Send and NBSend
row-send : (R : Log) (core : CoreId) (t : ObjId) (b : Bool) (a : ℕ) (message : Content) → row R core t (send_entry b a message) ≡ act_of (sendable R t a) (target_act b how.Plain t message)
unfolding row send_over
row-send R core t b a message = go b
  where
    go : (b : Bool) → row R core t (send_entry b a message) ≡ act_of (sendable R t a) (target_act b how.Plain t message)
    go true = sent-found true how.Plain t message (capability R t a) refl
    go false = sent-found false how.Plain t message (capability R t a) refl

-- the act of a call
abbrev pub calls : ObjId → Content → Cap → Act
calls t message c = send_act true (call_mode c) t c.obj c.badge message

-- the row of Call
row-call : (R : Log) (core : CoreId) (t : ObjId) (a : ℕ) (message : Content) → row R core t (Call a message) ≡ act_of (callable R t a) (calls t message)
unfolding row send_act ◌>>=◌ ◌>>◌ need
row-call R core t a message = rw (object-is R t kind.Endpoint a) (go (kinded kind.Endpoint (capability R t a)))
  where
    act : Cap → SendMode → Act
    act c mode = sends (letter_over t c mode message) Waits (queues (letter_over t c mode message))

    answered : (c : Cap) (b : Bool) → act c (cond b how.Call how.Mute) ≡ send_act true (cond b how.Call how.Mute) t c.obj c.badge message
    answered c true = refl
    answered c false = refl

    test : (b : Bool) (c : Cap) → (need b NoRight >> Ok (act c (call_mode c))) ≡ act_of (cond b (Ok c) (Err NoRight)) (calls t message)
    test true c = ap (λ (f : Act). Ok f) (answered c (may_be_answered c))
    test false c = refl

    go : (m : Checked Cap) → (m >>= λ c. need (may_write c) NoRight >> Ok (act c (call_mode c))) ≡ act_of (writable m) (calls t message)
    go (Err why) = refl
    go (Ok c) = test (may_write c) c

-- the reply object of what was found
reply-is : (R : Log) (t : ObjId) (r : ℕ) → reply_at R t r ≡ reply_found (object_named R t kind.Reply r)
unfolding reply_at
reply-is R t r = ap (λ m. m >>= λ x. Ok (Some x.obj)) (object-is R t kind.Reply r) ∙ go (kinded kind.Reply (capability R t r))
  where
    go : (m : Checked Cap) → (m >>= λ x. Ok (Some x.obj)) ≡ reply_found (object_found m)
    go (Err why) = bind-err why _
    go (Ok c) = bind-ok c _

-- where t may wait
waits : (R : Log) (t : ObjId) (c : Cap) (f : Source → Act) → (may_wait R t c >> Ok (f (source.Notification c.obj))) ≡ act_of (waitable R t (Ok c)) f
unfolding may_wait ◌>>◌ need
waits R t c f = go (bound_elsewhere (tied_to R c.obj) t)
  where
    go : (e : Bool) → (need (not e) AlreadyBound >> Ok (f (source.Notification c.obj))) ≡ act_of (cond e (Err AlreadyBound) (Ok (source.Notification c.obj))) f
    go true = refl
    go false = refl

-- a receive over a capability of each kind
received-over : (k : Kind) (b : Bool) (R : Log) (t : ObjId) (c : Cap) (r : Option ℕ) → receive_by k R t c (reply_named R t r) b ≡ act_of (source_by k R t c r) (source_act b t)
unfolding receive_by ◌>>=◌ ◌>>◌ need
received-over kind.Endpoint b R t c r = go (may_read c) (reply_named R t r)
  where
    go : (may : Bool) (m : Checked (Option ObjId)) → (need may NoRight >> (m >>= λ r. Ok (receive_on t c.obj r b))) ≡ act_of (with_reply (cond may (Ok c) (Err NoRight)) m) (source_act b t)
    go true (Ok r) = refl
    go true (Err why) = refl
    go false m = refl
received-over kind.Notification b R t c r = go (may_read c)
  where
    go : (may : Bool) → (need may NoRight >> (may_wait R t c >> Ok (wait_on t c.obj b))) ≡ act_of (waitable R t (cond may (Ok c) (Err NoRight))) (source_act b t)
    go true = waits R t c (source_act b t)
    go false = refl
received-over kind.Reply b R t c r = refl
received-over kind.CNode b R t c r = refl
received-over kind.Thread b R t c r = refl
received-over kind.Context b R t c r = refl

-- a receive over what was found
received-found : (R : Log) (t : ObjId) (b : Bool) (r : Option ℕ) (m : Checked Cap) → (m >>= λ c. receive_by c.obj.kind R t c (reply_named R t r) b) ≡ act_of (source_over R t r m) (source_act b t)
received-found R t b r (Err why) = bind-err why _
received-found R t b r (Ok c) = bind-ok c _ ∙ received-over c.obj.kind b R t c r

-- the rows of Recv, NBRecv, Wait and NBWait
pub row-receive : (R : Log) (core : CoreId) (t : ObjId) (b : Bool) (a : ℕ) (r : Option ℕ) → row R core t (receive_entry b a r) ≡ act_of (receivable R t a r) (source_act b t)
unfolding row receive_over
row-receive R core t b a r = named b r ∙ received-found R t b r (capability R t a)
  where
    with_object : (b : Bool) (r : ℕ) → (capability R t a >>= λ c. receive_over R t c (reply_at R t r) b) ≡ (capability R t a >>= λ c. receive_over R t c (reply_found (object_named R t kind.Reply r)) b)
    with_object b r = ap (λ reply. capability R t a >>= λ c. receive_over R t c reply b) (reply-is R t r)

    named : (b : Bool) (r : Option ℕ) → row R core t (receive_entry b a r) ≡ (capability R t a >>= λ c. receive_over R t c (reply_named R t r) b)
    named true (Some r) = with_object true r
    named false (Some r) = with_object false r
    named true None = refl
    named false None = refl

-- a reply over a capability of each kind, and a receive
replied-over : (k : Kind) (R : Log) (t : ObjId) (c : Cap) (m : Checked ObjId) (message : Content)
    → (need (same_kind k kind.Endpoint || same_kind k kind.Notification) WrongKind >> (need (may_read c) NoRight >> (reply_found m >>= λ r. receive_by k R t c (Ok r) true >>= λ receive. Ok (before (pay_any r message) receive))))
    ≡ act_of (cond (same_kind k kind.Endpoint || same_kind k kind.Notification) (replying_by k R t c (second_found (readable (Ok c)) m)) (Err WrongKind)) (reply_receive_act message t)
unfolding receive_by may_wait ◌>>=◌ ◌>>◌ need
replied-over kind.Endpoint R t c m message = go (may_read c) m
  where
    go : (may : Bool) (m : Checked ObjId) → (need may NoRight >> (reply_found m >>= λ r. (need may NoRight >> (Ok r >>= λ r. Ok (receive_on t c.obj r true))) >>= λ receive. Ok (before (pay_any r message) receive)))
        ≡ act_of (replying_by kind.Endpoint R t c (second_found (cond may (Ok c) (Err NoRight)) m)) (reply_receive_act message t)
    go true (Ok r) = refl
    go true (Err why) = refl
    go false m = refl
replied-over kind.Notification R t c m message = go (may_read c) m
  where
    waited : (r : ObjId) (e : Bool) → ((need (not e) AlreadyBound >> Ok (wait_on t c.obj true)) >>= λ receive. Ok (before (pay r message) receive))
        ≡ act_of (replying r (cond e (Err AlreadyBound) (Ok (source.Notification c.obj)))) (reply_receive_act message t)
    waited r true = refl
    waited r false = refl

    paid : (r : ObjId) (may : Bool) → ((need may NoRight >> (may_wait R t c >> Ok (wait_on t c.obj true))) >>= λ receive. Ok (before (pay r message) receive))
        ≡ act_of (replying r (waitable R t (cond may (Ok c) (Err NoRight)))) (reply_receive_act message t)
    paid r true = waited r (bound_elsewhere (tied_to R c.obj) t)
    paid r false = refl

    go : (may : Bool) (m : Checked ObjId)
        → (need may NoRight >> (reply_found m >>= λ r. (need (may_read c) NoRight >> (may_wait R t c >> Ok (wait_on t c.obj true))) >>= λ receive. Ok (before (pay_any r message) receive)))
        ≡ act_of (replying_by kind.Notification R t c (second_found (cond may (Ok c) (Err NoRight)) m)) (reply_receive_act message t)
    go true (Ok r) = paid r (may_read c)
    go true (Err why) = refl
    go false m = refl
replied-over kind.Reply R t c m message = refl
replied-over kind.CNode R t c m message = refl
replied-over kind.Thread R t c m message = refl
replied-over kind.Context R t c m message = refl

-- the row of ReplyRecv
row-reply_receive : (R : Log) (core : CoreId) (t : ObjId) (a r : ℕ) (message : Content) → row R core t (ReplyRecv a r message) ≡ act_of (answerable R t a r) (reply_receive_act message t)
unfolding row reply_receive receive_over
row-reply_receive R core t a r message = rw (reply-is R t r) (go (capability R t a))
  where
    go : (m : Checked Cap)
        → (m >>= λ c. need (can_badge c) WrongKind >> (need (may_read c) NoRight >> (reply_found (object_named R t kind.Reply r) >>= λ r. receive_by c.obj.kind R t c (Ok r) true >>= λ receive. Ok (before (pay_any r message) receive))))
        ≡ act_of (replying_over R t r m) (reply_receive_act message t)
    go (Err why) = bind-err why _
    go (Ok c) = bind-ok c _ ∙ replied-over c.obj.kind R t c (object_named R t kind.Reply r) message

-- an act that was found, and then another that what was found makes: both checks come first
exchanged : (over : Target → Act) (from : Source → Act) (m : Checked Target) (n : Checked Cap) (g : Cap → Checked Act) (k : Checked Source) → (n >>= g) ≡ act_of k from
    → (act_of m over >>= λ send. n >>= λ c. g c >>= λ receive. Ok (before (silently send) receive)) ≡ act_of (exchange_found m k) (λ at. before (silently (over at.target)) (from at.source))
unfolding ◌>>=◌
exchanged over from (Err why) n g k e = refl
exchanged over from (Ok x) n g k e = both n ∙ ap (λ (v : Checked Act). v >>= λ receive. Ok (before (silently (over x)) receive)) e ∙ last k
  where
    both : (n : Checked Cap) → (n >>= λ c. g c >>= λ receive. Ok (before (silently (over x)) receive)) ≡ ((n >>= g) >>= λ receive. Ok (before (silently (over x)) receive))
    both (Err why) = refl
    both (Ok c) = refl

    last : (k : Checked Source) → (act_of k from >>= λ receive. Ok (before (silently (over x)) receive)) ≡ act_of (exchange_found (Ok x) k) (λ at. before (silently (over at.target)) (from at.source))
    last (Err why) = refl
    last (Ok s) = refl

-- the rows of NBSendRecv and NBSendWait
row-exchange : (R : Log) (core : CoreId) (t : ObjId) (a s : ℕ) (r : Option ℕ) (message : Content) → row R core t (exchange_entry a s r message) ≡ act_of (exchangeable R t a s r) (exchange_act message t)
unfolding row send_receive send_over receive_over
row-exchange R core t a s r message = named r ∙ ap (λ send. over send r) (sent-found false how.Give t message (capability R t a) refl)
    ∙ exchanged (target_act false how.Give t message) (source_act true t) (sendable R t a) (capability R t s) (λ c. receive_by c.obj.kind R t c (reply_named R t r) true) (receivable R t s r) (received-found R t true r (capability R t s))
  where
    over : Checked Act → Option ℕ → Checked Act
    over send r = send >>= λ act. capability R t s >>= λ c. receive_by c.obj.kind R t c (reply_named R t r) true >>= λ receive. Ok (before (silently act) receive)

    sending : Checked Act
    sending = capability R t a >>= λ c. send_by c.obj.kind how.Give t c message (alone_act false how.Give t c.obj c.badge message)

    named : (r : Option ℕ) → row R core t (exchange_entry a s r message) ≡ over sending r
    named None = refl
    named (Some r) = ap (λ reply. sending >>= λ act. capability R t s >>= λ c. receive_by c.obj.kind R t c reply true >>= λ receive. Ok (before (silently act) receive)) (reply-is R t r)

-- the row of an entry whose checks were done
done : {A : Type 0} (x : Checked Act) (checks m n : Checked A) (f : A → Act) → x ≡ act_of checks f → m ≡ checks → m ≡ n → x ≡ act_of n f
done x checks m n f row e h = row ∙ ap (λ c. act_of c f) (sym e ∙ h)

-- the row of a send over what was found, or of its refusal
pub send-row : (R : Log) (core : CoreId) (t : ObjId) (b : Bool) (a : ℕ) (message : Content) (m n : Checked Target) → m ≡ sendable R t a → m ≡ n → row R core t (send_entry b a message) ≡ act_of n (target_act b how.Plain t message)
send-row R core t b a message m n e h = done _ _ m n (target_act b how.Plain t message) (row-send R core t b a message) e h

-- of a call
pub call-row : (R : Log) (core : CoreId) (t : ObjId) (a : ℕ) (message : Content) (m n : Checked Cap) → m ≡ callable R t a → m ≡ n → row R core t (Call a message) ≡ act_of n (calls t message)
call-row R core t a message m n e h = done _ _ m n (calls t message) (row-call R core t a message) e h

-- of a receive
pub receive-row : (R : Log) (core : CoreId) (t : ObjId) (b : Bool) (a : ℕ) (r : Option ℕ) (m n : Checked Source) → m ≡ receivable R t a r → m ≡ n → row R core t (receive_entry b a r) ≡ act_of n (source_act b t)
receive-row R core t b a r m n e h = done _ _ m n (source_act b t) (row-receive R core t b a r) e h

-- of a reply with a receive
pub reply_receive-row : (R : Log) (core : CoreId) (t : ObjId) (a r : ℕ) (message : Content) (m n : Checked Replying) → m ≡ answerable R t a r → m ≡ n → row R core t (ReplyRecv a r message) ≡ act_of n (reply_receive_act message t)
reply_receive-row R core t a r message m n e h = done _ _ m n (reply_receive_act message t) (row-reply_receive R core t a r message) e h

-- and of what sends and then receives
pub exchange-row : (R : Log) (core : CoreId) (t : ObjId) (a s : ℕ) (r : Option ℕ) (message : Content) (m n : Checked Exchange) → m ≡ exchangeable R t a s r → m ≡ n → row R core t (exchange_entry a s r message) ≡ act_of n (exchange_act message t)
exchange-row R core t a s r message m n e h = done _ _ m n (exchange_act message t) (row-exchange R core t a s r message) e h

-- a receive is a reply object freed, and then a word heard or a message taken
pub receive-parts : (b : Bool) (t e : ObjId) (r : Option ObjId) → receive_act b t e r ≡ before (with_any r free) (receive_message t e r b)
unfolding receive_on
receive-parts b t e r = refl
