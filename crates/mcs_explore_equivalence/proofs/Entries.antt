-- Each entry does the same on alike logs.
use Rattle.std.specs.Prelude.{ℕ, ◌≡◌, ◌==◌, Bool, true, false, cond, not, nat_le, nat_lt, is_none, ◌∷◌, Option, Some, None, Ok, option_map}
use Rattle.std.proofs.Common.{refl, ap, sym, ◌∙◌, subst}
use Rattle.mcs_types.specs.Views.{Content}
use Rattle.mcs_types.specs.Limits.{object_limit}
use Rattle.mcs_types.specs.declared.id.ObjId.{ObjId}
use Rattle.mcs_types.specs.declared.id.CoreId.{CoreId}
use Rattle.mcs_types.specs.declared.id.Kind.{Kind}
use Rattle.mcs_types.specs.declared.id.Kind.TheVariants as kind
use Rattle.mcs_types.specs.declared.cap.Cap.{Cap}
use Rattle.mcs_types.specs.declared.cap.Place.{Place}
use Rattle.mcs_types.specs.declared.record.Form.{Form}
use Rattle.mcs_types.specs.declared.record.Form.TheVariants as form
use Rattle.mcs_types.specs.declared.record.Letter.{Letter}
use Rattle.mcs_types.specs.declared.record.Mode.{Mode}
use Rattle.mcs_types.specs.declared.record.Mode.TheVariants.{Running, Restart, Inactive}
use Rattle.mcs_types.specs.declared.record.SendMode.{SendMode}
use Rattle.mcs_types.specs.declared.record.SendMode.TheVariants as how
use Rattle.mcs_types.specs.declared.record.Queue.TheVariants.{Senders, Receivers}
use Rattle.mcs_types.specs.declared.record.Rec.TheVariants as rec
use Rattle.mcs_types.specs.declared.entry.Answer.TheVariants as answer
use Rattle.mcs_types.specs.declared.entry.Entry.{Entry}
use Rattle.mcs_types.specs.declared.entry.Entry.TheVariants as entry
use Rattle.mcs_types.specs.declared.entry.Refusal.TheVariants.{WrongKind, NoRight, Range, AlreadyBound, NotBound, BadgeNotAllowed, LastCNode, SlotFull, NoRoom}
use Rattle.mcs_book.specs.Logs.{Log, onto}
use Rattle.mcs_book.specs.Objects.{is_alive, number_of}
use Rattle.mcs_book.specs.Slots.{SlotName, slot}
use Rattle.mcs_book.specs.Threads.{maximum_of}
use Rattle.mcs_book.specs.Queues.{first_in}
use Rattle.mcs_book.specs.Messages.{open_of}
use Rattle.mcs_book.specs.Notifications.{bound_of, tied_to}
use Rattle.mcs_book.specs.Statuses.{status_of, is_ready}
use Rattle.mcs_book.specs.Checks.{Checked, ◌>>=◌}
use Rattle.mcs_book.specs.Lookup.{capability, slot_named}
use Rattle.mcs_book.specs.Rights.{has_right, may_write, may_read, call_mode, can_badge}
use Rattle.mcs_book.specs.Pieces.{Piece, ◌then◌, nothing, say, with_any, Outcome, Act, answers, silently}
use Rattle.mcs_book.specs.Taking.{settle, handed, taken}
use Rattle.mcs_book.specs.Sending.{letter_over, sent, sends_to, sends, queues, send_by, send_over}
use Rattle.mcs_book.specs.Receiving.{stand, joins_or, hear, take_open, open_of_any, pending_of_any, receive_message, free, receive_on, bound_elsewhere, may_wait, receive_by, receive_over, reply_at, pay_any, reply_receive, send_receive}
use Rattle.mcs_book.specs.Binding.{bind_by}
use Rattle.mcs_book.specs.Placing.{delete, make, senders_with}
use Rattle.mcs_book.specs.Table.{row, wakes, does}
use Rattle.mcs_book.specs.Sound.{Sound, IsThere}
use Rattle.mcs_book.proofs.SoundLogs.Keeping.{sent_record, then-next}
use Rattle.mcs_book.proofs.SoundLogs.KeptLaws.{bound-there}
use Rattle.mcs_book.proofs.Firm.Taking.{OutlastsSend, outlasts-signal, outlasts-handed}
use Rattle.mcs_book.proofs.Firm.Ends.{OutlastsEnding, outlasts-pay}
use Rattle.mcs_state.proofs.Named.{found-alive}
use Rattle.mcs_explore_equivalence.specs.ButNumbers.{unnumbered, AlikeButNumbers, AreOf}
use Rattle.mcs_explore_equivalence.proofs.Settled.{open-of}
use Rattle.mcs_explore_equivalence.proofs.Asking.{first-same, open-same, pending-same}
use Rattle.mcs_explore_equivalence.proofs.Acting.{Agree, AgreeAct, Respects, RespectsAct, MatchOut, say-respects, nothing-respects, then-respects, with_any-respects, then-agrees, answers-agree, answers-respects, before-respects, Always}
use Rattle.mcs_explore_equivalence.proofs.Ending.{cancel-respects, cancel_all-respects, free-respects, unbind-respects, destroy_last-respects}
use Rattle.mcs_explore_equivalence.proofs.Rows.{Good, GoodAs, numbered, took-agrees, settle-respects, sends-respects, signal-respects, pay-respects, stand-respects, joins-respects, wait_on-respects, does-same}
use Rattle.mcs_explore_equivalence.proofs.Adding.{alike-onto}
use Rattle.mcs_explore_equivalence.proofs.Table.{bind-as, bind-good, need-as, need-good, row-same}

-- the notifications that are there in R are there in Q
abbrev Kept : Log → Log → Type 0
Kept R Q = (n : ObjId) → IsThere R kind.Notification n → IsThere Q kind.Notification n

weaken : (C D : Log → Type 0) (f : Act) → RespectsAct D f → ((Q : Log) → C Q → D Q) → RespectsAct C f
weaken C D f h w R S a c = h R S a (w R c)

queues-respects : (C : Log → Type 0) (t : ObjId) (cap : Cap) (mode : SendMode) (message : Content) → RespectsAct C (queues (letter_over t cap mode message))
unfolding queues
queues-respects C t cap mode message R S a c = answers-agree answer.Waits (sending then stands) (sending then stands) R S ((then-respects sending stands (say-respects _ refl) (say-respects _ refl)).on R S a)
  where
    sending : Piece
    sending = say (rec.Sent t cap.obj mode cap.badge message)

    stands : Piece
    stands = say (rec.Joins t (Senders cap.obj) None)

-- the open messages of one thread are taken
taken-agree : (s : Letter) (n : ℕ) (p : ObjId) (r : Option ObjId) (R S : Log) → AlikeButNumbers R S → AreOf R S s.number n → Agree R S (taken s p r) (taken (numbered s n) p r)
unfolding taken
taken-agree s n p r R S a of =
    then-agrees (took s.number then parts) (took n then parts) settles R S a
    (then-agrees (took s.number) (took n) parts R S a (took-agrees s.number n p R S of) (say-respects _ refl))
    (settle-respects s.mode s.sender p r _ (say-respects _ refl))
  where
    took : ℕ → Piece
    took m = say (rec.Took m p)

    parts : Piece
    parts = say (rec.Parts s.sender (Senders s.endpoint))

    settles : Piece
    settles = settle s.mode s.sender p r (say (rec.Turns s.sender Running))

hear-agrees : (R S : Log) (t : ObjId) (n : Option ObjId) (w : Option ℕ) (f g : Act) → AgreeAct R S f g → AgreeAct R S (hear t n w f) (hear t n w g)
unfolding hear
hear-agrees R S t (Some n) (Some word) f g h = λ i k. record { answer = refl; records = (refl, tt) }
hear-agrees R S t (Some n) None f g h = h
hear-agrees R S t None w f g h = h

-- the open messages of one thread are the same, but for their numbers
take-agrees : (R S : Log) → AlikeButNumbers R S → (t : ObjId) (r : Option ObjId) (x : ObjId) (f : Act) → AgreeAct R S f f → AgreeAct R S (take_open t r (open_of R x) f) (take_open t r (open_of S x) f)
unfolding take_open
take-agrees R S a t r x f h = go (open_of R x) refl (open_of S x) refl (open-same R S a x)
  where
    go : (o : Option Letter) → open_of R x ≡ o → (p : Option Letter) → open_of S x ≡ p → option_map unnumbered o ≡ option_map unnumbered p → AgreeAct R S (take_open t r o f) (take_open t r p f)
    go None d None e same = h
    go None d (Some l) e same = absurd cc
    go (Some s) d None e same = absurd cc
    go (Some s) d (Some l) e same =
        let it : unnumbered s ≡ unnumbered l = cc in
        subst (λ (z : Letter). AgreeAct R S (take_open t r (Some s) f) (take_open t r (Some z) f)) (ap (λ (z : Letter). numbered z l.number) it)
        (answers-agree (answer.Got s.badge s.message) (taken s t r) (taken (numbered s l.number) t r) R S (taken-agree s l.number t r R S a (open-of R S x s l a.left a.right d e)))

-- the notification of a thread, and its word
word-same : (R S : Log) → AlikeButNumbers R S → (t : ObjId) → pending_of_any R (bound_of R t) ≡ pending_of_any S (bound_of S t)
word-same R S a t = go (bound_of R t) refl
  where
    go : (o : Option ObjId) → bound_of R t ≡ o → pending_of_any R (bound_of R t) ≡ pending_of_any S (bound_of S t)
    go None e = rw (e, sym (a.bounds t) ∙ e) refl
    go (Some n) e = ap (λ o. pending_of_any R o) e ∙ pending-same R S a n (bound-there R t n a.left e).1 ∙ ap (λ o. pending_of_any S o) (sym (sym (a.bounds t) ∙ e))

message-respects : (C : Log → Type 0) (t e : ObjId) (r : Option ObjId) (b : Bool) → RespectsAct C (receive_message t e r b)
unfolding receive_message take_open
message-respects C t e r b R S a c =
    subst (λ (x : Option ObjId × Option ℕ). AgreeAct R S (act (both R) (open_of_any R (first_in R (Senders e)))) (act x (open_of_any S (first_in S (Senders e))))) (λ i. (a.bounds t i, word-same R S a t i))
    (subst (λ o. AgreeAct R S (act (both R) (open_of_any R (first_in R (Senders e)))) (act (both R) (open_of_any S o))) (first-same R S a (Senders e)) (go (first_in R (Senders e))))
  where
    both : Log → Option ObjId × Option ℕ
    both Q = (bound_of Q t, pending_of_any Q (bound_of Q t))

    act : Option ObjId × Option ℕ → Option Letter → Act
    act x o = hear t x.0 x.1 (take_open t r o (joins_or b (stand t (Receivers e) r x.0)))

    joins : AgreeAct R S (joins_or b (stand t (Receivers e) r (both R).0)) (joins_or b (stand t (Receivers e) r (both R).0))
    joins = joins-respects C b _ (stand-respects t (Receivers e) r (both R).0) R S a c

    go : (o : Option ObjId) → AgreeAct R S (act (both R) (open_of_any R o)) (act (both R) (open_of_any S o))
    go None = hear-agrees R S t (both R).0 (both R).1 _ _ joins
    go (Some x) = hear-agrees R S t (both R).0 (both R).1 _ _ (take-agrees R S a t r x _ joins)

receive-respects : (C : Log → Type 0) (t e : ObjId) (r : Option ObjId) (b : Bool) → RespectsAct C (receive_on t e r b)
unfolding receive_on
receive-respects C t e r b = weaken C Always _ (before-respects Always (with_any r free) (receive_message t e r b) (with_any-respects r free free-respects) (λ R c. tt) (message-respects Always t e r b)) (λ Q c. tt)

-- a receive over a capability that was found
over-good : (R : Log) (t : ObjId) (cap : Cap) (r : Checked (Option ObjId)) (b : Bool) → is_alive R cap.obj ≡ true → Good (Kept R) (receive_over R t cap r b)
unfolding receive_over receive_by may_wait
over-good R t cap r b alive = go cap.obj.kind refl
  where
    go : (k : Kind) → cap.obj.kind ≡ k → Good (Kept R) (receive_by k R t cap r b)
    go kind.Endpoint e = need-good (Kept R) (may_read cap) NoRight _ (bind-good (Kept R) r _ (λ o i. receive-respects (Kept R) t cap.obj o b))
    go kind.Notification e = need-good (Kept R) (may_read cap) NoRight _ (need-good (Kept R) (not (bound_elsewhere (tied_to R cap.obj) t)) AlreadyBound _ (weaken (Kept R) _ _ (wait_on-respects t cap.obj b) (λ Q c. c cap.obj (e, alive))))
    go kind.CNode e = tt
    go kind.Thread e = tt
    go kind.Reply e = tt
    go kind.Context e = tt

-- they are after an answer, a signal, and a message that is handed over
kept-ending : (R : Log) → OutlastsEnding Running (Kept R)
kept-ending R = record { paid = λ Q r x message c. c; voided = λ Q r x how c. c; turns = λ Q x c. c; holds = λ Q s x c. c }

kept-send : (R : Log) → OutlastsSend (Kept R)
kept-send R = record { raised = λ Q n badge c. c; heard = λ Q x n word c. c; parts = λ Q x q c. c; turns = λ Q x c. c; holds = λ Q s x c. c; sends = λ Q s c. c; took = λ Q m p c. c }

kept-paid : (R Q : Log) (r : Option ObjId) (message : Content) → Kept R Q → Kept R (onto (pay_any r message Q) Q)
kept-paid R Q None message c = c
kept-paid R Q (Some r) message c = outlasts-pay (Kept R) (kept-ending R) r message Q c

kept-awake : (R Q : Log) (m : Mode) (t : ObjId) → Kept R Q → Kept R (onto (wakes m t Q) Q)
kept-awake R Q Running t c = c
kept-awake R Q Restart t c = c
kept-awake R Q Inactive t c = c

pay_any-respects : (r : Option ObjId) (message : Content) → Respects (pay_any r message)
pay_any-respects r message = with_any-respects r _ (λ x. pay-respects x message)

-- a send over a capability of each kind
send-good : (C : Log → Type 0) (k : Kind) (mode : SendMode) (t : ObjId) (cap : Cap) (message : Content) (alone : Act) → RespectsAct C alone → Good C (send_by k mode t cap message alone)
unfolding send_by
send-good C kind.Endpoint mode t cap message alone h = need-good C (may_write cap) NoRight _ (sends-respects C t cap mode message answer.Done alone h)
send-good C kind.Notification mode t cap message alone h = need-good C (may_write cap) NoRight _ (answers-respects C answer.Done _ (signal-respects cap.obj cap.badge))
send-good C kind.Reply mode t cap message alone h = answers-respects C answer.Done _ (pay-respects cap.obj message)
send-good C kind.CNode mode t cap message alone h = tt
send-good C kind.Thread mode t cap message alone h = tt
send-good C kind.Context mode t cap message alone h = tt

-- a send that another act follows: the notifications that were there still are
record Leads (R : Log) (act : Act) : Type 0 where
  respects : RespectsAct Always act
  keeps : (Q : Log) → Kept R Q → Kept R (onto (silently act Q) Q)

-- its records alone
silently-respects : (act : Act) → RespectsAct Always act → Respects (silently act)
silently-respects act h = record { on = λ R S a s k. (h R S a tt s k).records }

-- the message of a sender that donates its context, and does not wait
given-keeps : (R : Log) (t : ObjId) (cap : Cap) (message : Content) (Q : Log) → Kept R Q → Kept R (onto (silently (sends (letter_over t cap how.Give message) answer.Done (answers answer.Done nothing)) Q) Q)
unfolding sends sends_to
given-keeps R t cap message Q c = go (first_in Q (Receivers cap.obj))
  where
    s : Letter
    s = letter_over t cap how.Give message Q

    go : (o : Option ObjId) → Kept R (onto ((sends_to s answer.Done (answers answer.Done nothing) o Q).records) Q)
    go None = c
    go (Some p) = then-next (Kept R) (sent s) (handed s p) Q (outlasts-handed (Kept R) (kept-send R) s p (sent_record s ∷ Q) refl c)

give-leads : (R : Log) (k : Kind) (t : ObjId) (cap : Cap) (message : Content) → GoodAs (Leads R) (send_by k how.Give t cap message (answers answer.Done nothing))
unfolding send_by
give-leads R kind.Endpoint t cap message = need-as (Leads R) (may_write cap) NoRight _ (record {
  respects = sends-respects Always t cap how.Give message answer.Done _ (answers-respects Always answer.Done _ nothing-respects);
  keeps = given-keeps R t cap message;
})
give-leads R kind.Notification t cap message = need-as (Leads R) (may_write cap) NoRight _ (record {
  respects = answers-respects Always answer.Done _ (signal-respects cap.obj cap.badge);
  keeps = λ Q c. outlasts-signal (Kept R) (kept-send R) cap.obj cap.badge Q c;
})
give-leads R kind.Reply t cap message = record {
  respects = answers-respects Always answer.Done _ (pay-respects cap.obj message);
  keeps = λ Q c. outlasts-pay (Kept R) (kept-ending R) cap.obj message Q c;
}
give-leads R kind.CNode t cap message = tt
give-leads R kind.Thread t cap message = tt
give-leads R kind.Context t cap message = tt

-- a thread that sends and then receives
exchange-good : (R : Log) (t : ObjId) → Sound R → (address source : ℕ) (message : Content) (r : Checked (Option ObjId))
    → Good (Kept R) (send_receive R t (capability R t address >>= λ cap. send_over how.Give t cap message (answers answer.Done nothing)) source r)
unfolding send_receive send_over
exchange-good R t sound address source message r = bind-good (Kept R) sending _ (λ send i. bind-good (Kept R) (capability R t source) _ (λ c j. bind-good (Kept R) (receive_over R t c r true) _ (λ act l.
    let leads : Leads R send = subst (λ m. GoodAs (Leads R) m) i (bind-as (Leads R) (capability R t address) _ (λ cap k. give-leads R cap.obj.kind t cap message)) in
    before-respects (Kept R) (silently send) act (silently-respects send leads.respects) leads.keeps (subst (λ m. Good (Kept R) m) l (over-good R t c r true (found-alive R t source c sound j))))))
  where
    sending : Checked Act
    sending = capability R t address >>= λ cap. send_over how.Give t cap message (answers answer.Done nothing)

delete-respects : (C : Log → Type 0) (at : SlotName) (held : Option Cap) → RespectsAct C (delete at held)
unfolding delete
delete-respects C at None = answers-respects C answer.Done _ nothing-respects
delete-respects C at (Some cap) = answers-respects C answer.Done _ (then-respects _ _ (say-respects _ refl) (destroy_last-respects cap.obj))

make-good : (C : Log → Type 0) (R : Log) (t : ObjId) (k : Kind) (rights : ℕ) (f : Form) (place : Place) → Good C (make R t k rights f place)
unfolding make
make-good C R t k rights f place = bind-good C (slot_named R t place) _ (λ at i. need-good C (is_none (slot R at.cnode at.index)) SlotFull _ (need-good C (nat_lt (number_of R k) object_limit) NoRoom _ (answers-respects C answer.Done _ (then-respects _ _ (say-respects _ refl) (say-respects _ refl)))))

bind_by-good : (C : Log → Type 0) (R : Log) (k : Kind) (s o : ObjId) → Good C (bind_by k R s o)
unfolding bind_by
bind_by-good C R kind.Thread s o = need-good C _ AlreadyBound _ (answers-respects C answer.Done _ (say-respects _ refl))
bind_by-good C R kind.Notification s o = need-good C _ AlreadyBound _ (answers-respects C answer.Done _ (say-respects _ refl))
bind_by-good C R kind.CNode s o = tt
bind_by-good C R kind.Endpoint s o = tt
bind_by-good C R kind.Reply s o = tt
bind_by-good C R kind.Context s o = tt

either-respects : (b : Bool) (p : Piece) → Respects p → Respects (cond b nothing p)
either-respects true p h = nothing-respects
either-respects false p h = h

-- what an entry does respects alike logs
row-good : (R : Log) (core : CoreId) (t : ObjId) → Sound R → (e : Entry) → Good (Kept R) (row R core t e)
unfolding row send_over reply_receive
row-good R core t sound (entry.Send address message) = bind-good (Kept R) _ _ (λ c i. send-good (Kept R) c.obj.kind how.Plain t c message _ (queues-respects (Kept R) t c how.Plain message))
row-good R core t sound (entry.NbSend address message) = bind-good (Kept R) _ _ (λ c i. send-good (Kept R) c.obj.kind how.Plain t c message _ (answers-respects (Kept R) answer.Done _ nothing-respects))
row-good R core t sound (entry.Call address message) = bind-good (Kept R) _ _ (λ c i. need-good (Kept R) (may_write c) NoRight _ (sends-respects (Kept R) t c (call_mode c) message answer.Waits _ (queues-respects (Kept R) t c (call_mode c) message)))
row-good R core t sound (entry.Recv address r) = bind-good (Kept R) _ _ (λ c i. over-good R t c (reply_at R t r) true (found-alive R t address c sound i))
row-good R core t sound (entry.NbRecv address r) = bind-good (Kept R) _ _ (λ c i. over-good R t c (reply_at R t r) false (found-alive R t address c sound i))
row-good R core t sound (entry.Wait address) = bind-good (Kept R) _ _ (λ c i. over-good R t c (Ok None) true (found-alive R t address c sound i))
row-good R core t sound (entry.NbWait address) = bind-good (Kept R) _ _ (λ c i. over-good R t c (Ok None) false (found-alive R t address c sound i))
row-good R core t sound (entry.ReplyRecv address r message) = bind-good (Kept R) _ _ (λ c i. need-good (Kept R) (can_badge c) WrongKind _ (need-good (Kept R) (may_read c) NoRight _ (bind-good (Kept R) (reply_at R t r) _ (λ o j.
    bind-good (Kept R) (receive_over R t c (Ok o) true) _ (λ act l. before-respects (Kept R) (pay_any o message) act (pay_any-respects o message) (λ Q. kept-paid R Q o message) (subst (λ m. Good (Kept R) m) l (over-good R t c (Ok o) true (found-alive R t address c sound i))))))))
row-good R core t sound (entry.Signal address) = bind-good (Kept R) _ _ (λ c i. need-good (Kept R) (may_write c) NoRight _ (answers-respects (Kept R) answer.Done _ (signal-respects c.obj c.badge)))
row-good R core t sound (entry.SetPriority x authority p) = bind-good (Kept R) _ _ (λ thread i. bind-good (Kept R) _ _ (λ giver j. need-good (Kept R) (nat_le p.0 (maximum_of R giver.obj)) Range _ (answers-respects (Kept R) answer.Done _ (say-respects _ refl))))
row-good R core t sound (entry.Suspend x) = bind-good (Kept R) _ _ (λ thread i. answers-respects (Kept R) answer.Done _ (cancel-respects thread.obj Inactive))
row-good R core t sound (entry.Resume x) = bind-good (Kept R) _ _ (λ thread i. answers-respects (Kept R) answer.Done _ (either-respects (is_ready (status_of R thread.obj)) _ (cancel-respects thread.obj Restart)))
row-good R core t sound (entry.BindNtfn x n) = bind-good (Kept R) _ _ (λ thread i. bind-good (Kept R) _ _ (λ cap j. need-good (Kept R) (may_read cap) NoRight _ (need-good (Kept R) _ AlreadyBound _ (answers-respects (Kept R) answer.Done _ (say-respects _ refl)))))
row-good R core t sound (entry.UnbindNtfn x) = bind-good (Kept R) _ _ (λ thread i. need-good (Kept R) _ NotBound _ (answers-respects (Kept R) answer.Done _ (say-respects _ refl)))
row-good R core t sound (entry.BindCtx s x) = bind-good (Kept R) _ _ (λ context i. bind-good (Kept R) _ _ (λ target j. bind_by-good (Kept R) R target.obj.kind context.obj target.obj))
row-good R core t sound (entry.UnbindCtx s) = bind-good (Kept R) _ _ (λ context i. need-good (Kept R) _ NotBound _ (answers-respects (Kept R) answer.Done _ (unbind-respects context.obj)))
row-good R core t sound (entry.CancelBadged address) = bind-good (Kept R) _ _ (λ cap i. need-good (Kept R) (has_right 15 cap) NoRight _ (answers-respects (Kept R) answer.Done _ (either-respects (cap.badge.0 == 0) _ (cancel_all-respects (senders_with R cap.obj cap.badge.0) Restart))))
row-good R core t sound (entry.CopyCap source dest rights) = bind-good (Kept R) _ _ (λ at i. answers-respects (Kept R) answer.Done _ (say-respects _ refl))
row-good R core t sound (entry.MintCap source dest rights badge) = bind-good (Kept R) _ _ (λ at i. need-good (Kept R) _ WrongKind _ (need-good (Kept R) _ BadgeNotAllowed _ (answers-respects (Kept R) answer.Done _ (say-respects _ refl))))
row-good R core t sound (entry.MoveCap source dest) = bind-good (Kept R) _ _ (λ at i. answers-respects (Kept R) answer.Done _ (then-respects _ _ (say-respects _ refl) (say-respects _ refl)))
row-good R core t sound (entry.DeleteCap place) = bind-good (Kept R) _ _ (λ at i. need-good (Kept R) _ LastCNode _ (delete-respects (Kept R) at (slot R at.cnode at.index)))
row-good R core t sound (entry.MakeEndpoint place) = make-good (Kept R) R t kind.Endpoint 15 form.Plain place
row-good R core t sound (entry.MakeNotification place) = make-good (Kept R) R t kind.Notification 15 form.Plain place
row-good R core t sound (entry.MakeReply place) = make-good (Kept R) R t kind.Reply 0 form.Plain place
row-good R core t sound (entry.MakeContext place) = make-good (Kept R) R t kind.Context 0 (form.OnCore core) place
row-good R core t sound (entry.NbSendRecv address source r message) = exchange-good R t sound address source message (reply_at R t r)
row-good R core t sound (entry.NbSendWait address source message) = exchange-good R t sound address source message (Ok None)

-- an entry has the same answer and records that match on alike logs
pub entry-same : (R S : Log) (core : CoreId) (t : ObjId) (e : Entry) → AlikeButNumbers R S → IsThere R kind.Thread t → Sound (onto (does R core t e).records R) → Sound (onto (does S core t e).records S) → MatchOut R S (does R core t e) (does S core t e)
entry-same R S core t e a there h k = does-same (Kept R) R S core t e a there (λ n is. is) (λ Q m. kept-awake R Q m t) (row-same R S a core t there e) (row-good R core t a.left e) h k

-- and leaves alike logs
pub entry-alike : (R S : Log) (core : CoreId) (t : ObjId) (e : Entry) → AlikeButNumbers R S → IsThere R kind.Thread t → Sound (onto (does R core t e).records R) → Sound (onto (does S core t e).records S)
    → AlikeButNumbers (onto (does R core t e).records R) (onto (does S core t e).records S)
entry-alike R S core t e a there h k = alike-onto (does R core t e).records (does S core t e).records R S a (entry-same R S core t e a there h k).records h k
