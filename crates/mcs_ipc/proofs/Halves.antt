-- A thread that sends and then receives: what is there, and what holds of it between.
use Rattle.std.specs.Prelude.{ℕ, ◌≡◌, ◌≢◌, Bool, true, false, ◌∷◌, Option, Some, None, Ok, Err, unwrap_or}
use Rattle.std.specs.Option.{IfSome}
use Rattle.std.proofs.Common.{refl, ap, sym, ◌∙◌, inl, inr}
use Rattle.std.proofs.lemmas.Bool.{eq-eqb}
use Rattle.mcs_types.specs.Views.{Content}
use Rattle.mcs_types.specs.declared.id.ObjId.{ObjId}
use Rattle.mcs_types.specs.declared.id.Badge.{Badge}
use Rattle.mcs_types.specs.declared.id.Kind.{Kind}
use Rattle.mcs_types.specs.declared.id.Kind.TheVariants as kind
use Rattle.mcs_types.specs.declared.record.Letter.{Letter}
use Rattle.mcs_types.specs.declared.record.Mode.TheVariants.{Running}
use Rattle.mcs_types.specs.declared.record.Queue.{Queue}
use Rattle.mcs_types.specs.declared.record.Queue.TheVariants.{Senders, Receivers}
use Rattle.mcs_types.specs.declared.record.Rec.TheVariants as rec
use Rattle.mcs_types.specs.declared.record.SendMode.{SendMode}
use Rattle.mcs_types.specs.declared.record.SendMode.TheVariants as how
use Rattle.mcs_types.specs.declared.entry.Answer.TheVariants.{Done}
use Rattle.mcs_types.specs.Ids.{same}
use Rattle.mcs_types.proofs.Ids.{same-equal}
use Rattle.mcs_book.specs.Logs.{Log, onto, given}
use Rattle.mcs_book.specs.Checks.{Checked}
use Rattle.mcs_book.specs.Contexts.{context_of}
use Rattle.mcs_book.specs.Fair.{IsOpenOf}
use Rattle.mcs_book.specs.Messages.{next_message}
use Rattle.mcs_book.specs.Pieces.{◌then◌, nothing, say, with_any, answers}
use Rattle.mcs_book.specs.Queues.{queue_of, first_in, reply_with}
use Rattle.mcs_book.specs.Sending.{letter_to, sent, sends_to, sends}
use Rattle.mcs_book.specs.Signalling.{signal, spare_at}
use Rattle.mcs_book.specs.Sound.{Sound, IsThere}
use Rattle.mcs_book.specs.Taking.{back_to, give_back, give, settle, handed}
use Rattle.mcs_book.specs.Threads.{mode_of}
use Rattle.mcs_book.proofs.Firm.Taking.{OutlastsSend, outlasts-signal, outlasts-handed}
use Rattle.mcs_book.proofs.Messages.SendersOpen.{open-back, open-sent_back}
use Rattle.mcs_book.proofs.Queues.QueueLaws.{first-stands}
use Rattle.mcs_book.proofs.SoundLogs.Keeping.{sent_record, then-next}
use Rattle.mcs_book.proofs.SoundLogs.KeptLaws.{set-kept}
use Rattle.mcs_notify.specs.declared.signals.Hearer.{Hearer}
use Rattle.mcs_notify.specs.Hearing.{reached, goes_on, heard_by}
use Rattle.mcs_notify.specs.Rows.{signal_act}
use Rattle.mcs_notify.proofs.Hearing.{IsReached, reached-is, signal-is, heard-is}
use Rattle.mcs_state.specs.Entering.{IsActing, OpenStand, OnlyBoundWait}
use Rattle.mcs_ipc.specs.declared.checks.Exchange.{Exchange}
use Rattle.mcs_ipc.specs.declared.checks.Source.{Source}
use Rattle.mcs_ipc.specs.declared.checks.Source.TheVariants as source
use Rattle.mcs_ipc.specs.declared.checks.Target.{Target}
use Rattle.mcs_ipc.specs.declared.checks.Target.TheVariants as target
use Rattle.mcs_ipc.specs.Ready.{IsWaiting, IsReceivingFrom}
use Rattle.mcs_ipc.specs.Rows.{send_act, pay_act, target_act}
use Rattle.mcs_ipc.specs.Sources.{exchange_found}
use Rattle.mcs_ipc.proofs.Paying.{paid-receives}

-- what was found of both ends
pub exchange-ends : (m : Checked Target) (k : Checked Source) (at : Exchange) → exchange_found m k ≡ Ok at → (m ≡ Ok at.target) × (k ≡ Ok at.source)
exchange-ends (Err why) k at e = absurd cc
exchange-ends (Ok x) (Err why) at e = absurd cc
exchange-ends (Ok x) (Ok s) at e = let it : record { target = x; source = s } ≡ at = cc in (ap (λ (y : Exchange). Ok y.target) it, ap (λ (y : Exchange). Ok y.source) it)

-- ---- what a signal and a message that is handed over leave as it was

-- an object is there
there-send : (k : Kind) (o : ObjId) → OutlastsSend (λ R. IsThere R k o)
there-send k o = record {
  raised = λ R n badge h. h;
  heard = λ R x n word h. h;
  parts = λ R x q h. h;
  turns = λ R x h. h;
  holds = λ R s x h. h;
  sends = λ R s h. h;
  took = λ R m p h. h;
}

-- t acts
acts-send : (t : ObjId) → OutlastsSend (λ R. IsActing R t)
acts-send t = record {
  raised = λ R n badge h. record { there = h.there; idle = h.idle; runs = h.runs };
  heard = λ R x n word h. record { there = h.there; idle = h.idle; runs = h.runs };
  parts = λ R x q h. record { there = h.there; idle = (set-kept (same t x) None (queue_of R t) h.idle.0, h.idle.1); runs = h.runs };
  turns = λ R x h. record { there = h.there; idle = h.idle; runs = set-kept (same t x) Running (mode_of R t) h.runs };
  holds = λ R s x h. record { there = h.there; idle = h.idle; runs = h.runs };
  sends = λ R s h. record { there = h.there; idle = h.idle; runs = h.runs };
  took = λ R m p h. record { there = h.there; idle = h.idle; runs = h.runs };
}

-- t may wait
waits-send : (t n : ObjId) → OutlastsSend (λ R. IsWaiting R t n)
waits-send t n = record {
  raised = λ R o badge h. record { acting = (acts-send t).raised R o badge h.acting; there = h.there; alone = h.alone };
  heard = λ R x o word h. record { acting = (acts-send t).heard R x o word h.acting; there = h.there; alone = h.alone };
  parts = λ R x q h. record { acting = (acts-send t).parts R x q h.acting; there = h.there; alone = h.alone };
  turns = λ R x h. record { acting = (acts-send t).turns R x h.acting; there = h.there; alone = h.alone };
  holds = λ R s x h. record { acting = (acts-send t).holds R s x h.acting; there = h.there; alone = h.alone };
  sends = λ R s h. record { acting = (acts-send t).sends R s h.acting; there = h.there; alone = h.alone };
  took = λ R m p h. record { acting = (acts-send t).took R m p h.acting; there = h.there; alone = h.alone };
}

-- ---- who has an open message is in its queue still

-- a context passes to somebody
back-stand : (s : Option ObjId) (x : ObjId) (R : Log) → OpenStand R → OpenStand (onto (give_back s x R) R)
unfolding give_back
back-stand s x R stand = go s (context_of R x)
  where
    go : (s o : Option ObjId) → OpenStand (onto (back_to x s o) R)
    go (Some c) None y e m still = stand y e m (record { sent = still.sent; is_letter = still.is_letter; is_open = still.is_open; of_sender = still.of_sender; on_endpoint = still.on_endpoint })
    go (Some c) (Some d) y e m still = stand y e m still
    go None o y e m still = stand y e m still

-- who is no sender leaves its queue
parts-stand : (R : Log) (x : ObjId) (q : Queue) → queue_of R x ≡ Some q → ((e : ObjId) → q ≢ Senders e)
    → ((y e : ObjId) (m : ℕ) → IsOpenOf R y e m → queue_of R y ≡ Some (Senders e)) → (y e : ObjId) (m : ℕ) → IsOpenOf R y e m → queue_of (rec.Parts x q ∷ R) y ≡ Some (Senders e)
parts-stand R x q at other stand y e m still = go (same y x) refl
  where
    go : (b : Bool) → same y x ≡ b → unwrap_or (given b None) (queue_of R y) ≡ Some (Senders e)
    go true is = let no : Some q ≡ Some (Senders e) = sym at ∙ ap (λ z. queue_of R z) (sym (same-equal y x is)) ∙ stand y e m still in let it : q ≡ Senders e = cc in absurd (other e it)
    go false is = stand y e m still

-- a hearer goes on
hears-stand : (R : Log) (n : ObjId) (word : ℕ) (h : Hearer) → queue_of R h.thread ≡ Some h.queue → ((e : ObjId) → h.queue ≢ Senders e) → OpenStand R → OpenStand (onto (goes_on n word h R) R)
unfolding goes_on ◌then◌
hears-stand R n word h at other stand y e m still =
    parts-stand R h.thread h.queue at other stand y e m (record { sent = still.sent; is_letter = still.is_letter; is_open = still.is_open; of_sender = still.of_sender; on_endpoint = still.on_endpoint })

-- a signal
signal-stand : (R : Log) (n : ObjId) (badge : Badge) → Sound R → OnlyBoundWait R → OpenStand R → OpenStand (onto (signal n badge R) R)
signal-stand R n badge sound only stand = rw (signal-is R n badge) (then-next OpenStand (say (rec.Raised n badge)) (with_any (reached R n) (heard_by n badge.0)) R (go (reached R n) refl))
  where
    S : Log
    S = rec.Raised n badge ∷ R

    raised : OpenStand S
    raised y e m still = stand y e m (record { sent = still.sent; is_letter = still.is_letter; is_open = still.is_open; of_sender = still.of_sender; on_endpoint = still.on_endpoint })

    go : (o : Option Hearer) → reached R n ≡ o → OpenStand (onto (with_any o (heard_by n badge.0) S) S)
    go None is = raised
    go (Some h) is =
        let r : IsReached R n h = reached-is R n h sound only is in
        rw (← (heard-is S n badge.0 h)) (then-next OpenStand (goes_on n badge.0 h) (give_back (spare_at S n) h.thread) S (back-stand (spare_at S n) h.thread (onto (goes_on n badge.0 h S) S) (hears-stand S n badge.0 h r.stands r.receives raised)))

-- a message is handed over, with its sender's context
handed-stand : (R : Log) (s : Letter) (p : ObjId) → s.mode ≡ how.Give → s.number ≡ next_message R → first_in R (Receivers s.endpoint) ≡ Some p → OpenStand R → OpenStand (onto (handed s p (sent_record s ∷ R)) (sent_record s ∷ R))
unfolding handed ◌then◌ give
handed-stand R s p gives number first stand =
    then-next OpenStand (say (rec.Took s.number p) then say (rec.Parts p (Receivers s.endpoint)) then settle s.mode s.sender p (reply_with X p) nothing) (say (rec.Turns p Running)) X
    (turned W (then-next OpenStand (say (rec.Took s.number p) then say (rec.Parts p (Receivers s.endpoint))) (settle s.mode s.sender p (reply_with X p) nothing) X (settled s.mode gives)))
  where
    X : Log
    X = sent_record s ∷ R

    U : Log
    U = rec.Took s.number p ∷ X

    V : Log
    V = rec.Parts p (Receivers s.endpoint) ∷ U

    -- what is open was open before
    before : (y e : ObjId) (m : ℕ) → IsOpenOf U y e m → IsOpenOf R y e m
    before y e m o =
        let b = open-back (sent_record s ∷ R) (rec.Took s.number p) y e m refl o in
        elim (open-sent_back R s y e m b.1) [ inl (at, who, there) ↦ (let no : true ≡ false = sym (eq-eqb m s.number (at ∙ sym number)) ∙ b.0 in absurd cc) | inr old ↦ old ]

    parted : OpenStand V
    parted y e m still = parts-stand U p (Receivers s.endpoint) (first-stands R (Receivers s.endpoint) p first) (λ e' k. absurd cc) (λ y e m o. stand y e m (before y e m o)) y e m
        (record { sent = still.sent; is_letter = still.is_letter; is_open = still.is_open; of_sender = still.of_sender; on_endpoint = still.on_endpoint })

    settled : (mode : SendMode) → mode ≡ how.Give → OpenStand (onto (settle mode s.sender p (reply_with X p) nothing V) V)
    settled how.Give is = back-stand (context_of V s.sender) p V parted
    settled how.Plain is = absurd cc
    settled how.Call is = absurd cc
    settled how.Mute is = absurd cc

    W : Log
    W = onto ((say (rec.Took s.number p) then say (rec.Parts p (Receivers s.endpoint)) then settle s.mode s.sender p (reply_with X p) nothing) X) X

    turned : (L : Log) → OpenStand L → OpenStand (rec.Turns p Running ∷ L)
    turned L h y e m still = h y e m (record { sent = still.sent; is_letter = still.is_letter; is_open = still.is_open; of_sender = still.of_sender; on_endpoint = still.on_endpoint })

-- ---- who is to receive still is

-- t is to receive after a change that leaves what it names as it was, and senders in their queues
still-receives : (R S : Log) (t : ObjId) (s : Source) → ((F : Log → Type 0) → OutlastsSend F → F R → F S) → (OpenStand R → OpenStand S) → IsReceivingFrom R t s → IsReceivingFrom S t s
still-receives R S t (source.Notification n) outlasts stands h = outlasts (λ L. IsWaiting L t n) (waits-send t n) h
still-receives R S t (source.Endpoint at) outlasts stands h = record {
  acting = outlasts (λ L. IsActing L t) (acts-send t) h.acting;
  stand = stands h.stand;
  endpoint = outlasts (λ L. IsThere L kind.Endpoint at.endpoint) (there-send kind.Endpoint at.endpoint) h.endpoint;
  reply = reply at.reply h.reply;
}
  where
    reply : (r : Option ObjId) → IfSome r (λ d. IsThere R kind.Reply d) → IfSome r (λ d. IsThere S kind.Reply d)
    reply None there = tt
    reply (Some d) there = outlasts (λ L. IsThere L kind.Reply d) (there-send kind.Reply d) there

-- a message was handed over with its sender's context, or no thread receives
sent-receives : (R : Log) (t e : ObjId) (badge : Badge) (message : Content) (s : Source) → IsReceivingFrom R t s → IsReceivingFrom (onto ((send_act false how.Give t e badge message R).records) R) t s
unfolding send_act sends sends_to
sent-receives R t e badge message s h = go (first_in R (Receivers e)) refl
  where
    l : Letter
    l = letter_to t e badge how.Give message R

    go : (o : Option ObjId) → first_in R (Receivers e) ≡ o → IsReceivingFrom (onto ((sends_to l Done (answers Done nothing) o R).records) R) t s
    go None first = h
    go (Some p) first = then-next (λ L. IsReceivingFrom L t s) (sent l) (handed l p) R
        (still-receives R (onto (handed l p (sent_record l ∷ R)) (sent_record l ∷ R)) t s (λ F f k. outlasts-handed F f l p (sent_record l ∷ R) refl (f.sends R l k)) (handed-stand R l p refl refl first) h)

-- who is to receive still is, when it has sent what does not wait
pub given-receives : (R : Log) (t : ObjId) (x : Target) (message : Content) (s : Source) → Sound R → OnlyBoundWait R → IsReceivingFrom R t s → IsReceivingFrom (onto ((target_act false how.Give t message x R).records) R) t s
unfolding signal_act pay_act
given-receives R t (target.Endpoint c) message s sound only h = sent-receives R t c.obj c.badge message s h
given-receives R t (target.Notification c) message s sound only h = still-receives R (onto (signal c.obj c.badge R) R) t s (λ F f k. outlasts-signal F f c.obj c.badge R k) (signal-stand R c.obj c.badge sound only) h
given-receives R t (target.Reply r) message s sound only h = paid-receives R t s r message h
