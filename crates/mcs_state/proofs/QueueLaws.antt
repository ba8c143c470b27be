-- The queues follow a record.
use Rattle.std.specs.Prelude.{ℕ, ◌≡◌, ◌+◌, ◌&&◌, ◌||◌, not, Bool, true, false, cond, List, [], ◌∷◌, Option, Some, None, unwrap_or}
use Rattle.std.proofs.Common.{refl, ap, sym, ◌∙◌, subst, arith}
use Rattle.mcs_types.specs.declared.id.ObjId.{ObjId}
use Rattle.mcs_types.specs.declared.id.Kind.{Kind}
use Rattle.mcs_types.specs.declared.id.Kind.TheVariants as kind
use Rattle.mcs_types.specs.declared.record.Form.{Form}
use Rattle.mcs_types.specs.declared.record.Queue.{Queue}
use Rattle.mcs_types.specs.declared.record.Queue.TheVariants.{Senders, Receivers, Waiters}
use Rattle.mcs_types.specs.declared.record.Rec.{Rec}
use Rattle.mcs_types.specs.declared.record.Rec.TheVariants as rec
use Rattle.mcs_types.specs.Ids.{same, same_kind}
use Rattle.mcs_types.proofs.Ids.{parts, same-self, same-equal, same_kind-equal}
use Rattle.mcs_book.specs.Logs.{Log, given, counted}
use Rattle.mcs_book.specs.Growing.{Waiter, without, shifted, is_among, growing_queue}
use Rattle.mcs_book.specs.Objects.{makes_kind, number_of, is_alive}
use Rattle.mcs_book.specs.Queues.{queue_of}
use Rattle.mcs_book.specs.Sound.{Sound, Allowed, IsLineThere, IsEmptyLine}
use Rattle.mcs_book.specs.Threads.{prio_of}
use Rattle.mcs_book.proofs.Objects.Same.{is_queue-some}
use Rattle.mcs_book.proofs.Queues.QueueLaws.{among-line}
use Rattle.mcs_object_queues.specs.Queues.{queue_object, queue_kind, is_queue_of, has_queues, line_after, count_after}
use Rattle.mcs_state.specs.Tables.{Queueing, QueuesAgree, is_there}
use Rattle.mcs_state.specs.Following.{QueuesFollow, QueuesFollowMade, QueuesFollowClosed, OpensQueues, ClosesQueues, JoinsQueue, PartsQueue}
use Rattle.mcs_state.proofs.CountLaws.{never-made, number-made, number-closed}
use Rattle.mcs_state.proofs.ThereLaws.{kind-flip, there-made, there-beside, there-closed, there-unclosed, there, released}

-- the kind of a queue's object has queues
queued : (q : Queue) → has_queues (queue_kind q) ≡ true
queued (Senders e) = refl
queued (Receivers e) = refl
queued (Waiters n) = refl

-- an endpoint or a notification was made
opened : (R : Log) (v w : Queueing) (o : ObjId) (f : Form) → Sound R → Allowed R (rec.Made o f) → OpensQueues o v w → QueuesAgree v R → QueuesAgree w (rec.Made o f ∷ R)
opened R v w o f sound ok h a = record {
  made = λ k own. h.made k ∙ ap (λ n. count_after k o.kind (n + 1) n) (a.made k own) ∙ ap (λ b. cond b (counted (makes_kind k) R + 1) (counted (makes_kind k) R)) (kind-flip k o.kind);
  there = λ k own. h.there k ∙ ap (λ n. count_after k o.kind (n + 1) n) (a.there k own) ∙ ap (λ b. cond b (number_of R k + 1) (number_of R k)) (kind-flip k o.kind) ∙ sym (number-made R o f k sound ok);
  line = λ q. h.line q ∙ a.line q;
  queue = λ t. h.queue t ∙ a.queue t;
  has = λ q. h.has q ∙ rw (a.has q) (there-made R o (queue_object q) f (queue_kind q) sound (never-made R o f sound ok));
}

-- an object of a kind without queues was made
other : (k l : Kind) → has_queues k ≡ false → has_queues l ≡ true → same_kind k l ≡ false
other kind.CNode kind.Endpoint e f = refl
other kind.CNode kind.Notification e f = refl
other kind.Thread kind.Endpoint e f = refl
other kind.Thread kind.Notification e f = refl
other kind.Reply kind.Endpoint e f = refl
other kind.Reply kind.Notification e f = refl
other kind.Context kind.Endpoint e f = refl
other kind.Context kind.Notification e f = refl
other kind.Endpoint l e f = absurd cc
other kind.Notification l e f = absurd cc
other k kind.CNode e f = absurd cc
other k kind.Thread e f = absurd cc
other k kind.Reply e f = absurd cc
other k kind.Context e f = absurd cc

beside : (R : Log) (v w : Queueing) (o : ObjId) (f : Form) → Sound R → Allowed R (rec.Made o f) → has_queues o.kind ≡ false → w ≡ v → QueuesAgree v R → QueuesAgree w (rec.Made o f ∷ R)
beside R v w o f sound ok none is a = rw is (record {
  made = λ k own. a.made k own ∙ sym (rw (other o.kind k none own) refl);
  there = λ k own. a.there k own ∙ sym (rw (number-made R o f k sound ok, other o.kind k none own) refl);
  line = a.line;
  queue = a.queue;
  has = λ q. a.has q ∙ there-beside R o (queue_object q) f (queue_kind q) (other o.kind (queue_kind q) none (queued q));
})

born : (R : Log) (v w : Queueing) (o : ObjId) (f : Form) → Sound R → Allowed R (rec.Made o f) → QueuesFollowMade o.kind o v w → QueuesAgree v R → QueuesAgree w (rec.Made o f ∷ R)
born R v w o f sound ok h a = go o.kind refl h
  where
    go : (k : Kind) → o.kind ≡ k → QueuesFollowMade k o v w → QueuesAgree w (rec.Made o f ∷ R)
    go kind.Endpoint e h = opened R v w o f sound ok h a
    go kind.Notification e h = opened R v w o f sound ok h a
    go kind.CNode e h = beside R v w o f sound ok (ap has_queues e) h a
    go kind.Thread e h = beside R v w o f sound ok (ap has_queues e) h a
    go kind.Reply e h = beside R v w o f sound ok (ap has_queues e) h a
    go kind.Context e h = beside R v w o f sound ok (ap has_queues e) h a

-- an endpoint or a notification was closed
closed : (R : Log) (v w : Queueing) (o : ObjId) → Sound R → Allowed R (rec.Closed o) → ClosesQueues o v w → QueuesAgree v R → QueuesAgree w (rec.Closed o ∷ R)
closed R v w o sound ok h a = record {
  made = λ k own. h.made k ∙ a.made k own;
  there = λ k own. fewer (same_kind o.kind k) (w.there k) (number_of (rec.Closed o ∷ R) k)
      (ap (λ b. cond b (w.there k + 1) (w.there k)) (sym (kind-flip k o.kind)) ∙ sym (h.there k) ∙ a.there k own ∙ number-closed R o k sound ok);
  line = λ q. h.line q ∙ a.line q;
  queue = λ t. h.queue t ∙ a.queue t;
  has = λ q. h.has q ∙ ap (λ b. not (is_queue_of o q) && b) (a.has q) ∙ left (same_kind (queue_object q).kind (queue_kind q)) (same (queue_object q) o) (is_alive R (queue_object q)) ∙ there-closed R o (queue_object q) (queue_kind q);
}
  where
    fewer : (b : Bool) (m n : ℕ) → cond b (m + 1) m ≡ cond b (n + 1) n → m ≡ n
    fewer true m n e = omega (arith, e)
    fewer false m n e = e

    left : (k s b : Bool) → (not (k && s) && (k && b)) ≡ cond s false (k && b)
    left true true b = refl
    left true false b = refl
    left false true b = refl
    left false false b = refl

-- an object of a kind without queues was closed
unclosed-queues : (R : Log) (v w : Queueing) (o : ObjId) → Sound R → Allowed R (rec.Closed o) → has_queues o.kind ≡ false → w ≡ v → QueuesAgree v R → QueuesAgree w (rec.Closed o ∷ R)
unclosed-queues R v w o sound ok none is a = rw is (record {
  made = a.made;
  there = λ k own. a.there k own ∙ rw (number-closed R o k sound ok, other o.kind k none own) refl;
  line = a.line;
  queue = a.queue;
  has = λ q. a.has q ∙ there-unclosed R o (queue_object q) (queue_kind q) (other o.kind (queue_kind q) none (queued q));
})

ended : (R : Log) (v w : Queueing) (o : ObjId) → Sound R → Allowed R (rec.Closed o) → QueuesFollowClosed o.kind o v w → QueuesAgree v R → QueuesAgree w (rec.Closed o ∷ R)
ended R v w o sound ok h a = go o.kind refl h
  where
    go : (k : Kind) → o.kind ≡ k → QueuesFollowClosed k o v w → QueuesAgree w (rec.Closed o ∷ R)
    go kind.Endpoint e h = closed R v w o sound ok h a
    go kind.Notification e h = closed R v w o sound ok h a
    go kind.CNode e h = unclosed-queues R v w o sound ok (ap has_queues e) h a
    go kind.Thread e h = unclosed-queues R v w o sound ok (ap has_queues e) h a
    go kind.Reply e h = unclosed-queues R v w o sound ok (ap has_queues e) h a
    go kind.Context e h = unclosed-queues R v w o sound ok (ap has_queues e) h a

joined : (R : Log) (v w : Queueing) (u : ObjId) (q : Queue) (reply : Option ObjId) → JoinsQueue u (prio_of R u) q v w → QueuesAgree v R → QueuesAgree w (rec.Joins u q reply ∷ R)
joined R v w u q reply h a = record {
  made = λ k own. h.objects.made k ∙ a.made k own;
  there = λ k own. h.objects.there k ∙ a.there k own;
  line = λ k. h.line k ∙ ap (λ ws. line_after k q (record { thread = u; priority = prio_of R u }) ws) (a.line k);
  queue = λ t. h.queue t ∙ go (same t u) (a.queue t);
  has = λ k. h.objects.has k ∙ a.has k;
}
  where
    go : {t : ObjId} (b : Bool) → v.queue t ≡ queue_of R t → cond b (Some q) (v.queue t) ≡ unwrap_or (given b (Some q)) (queue_of R t)
    go true e = refl
    go false e = e

parted : (R : Log) (v w : Queueing) (u : ObjId) (q : Queue) → PartsQueue u v w → QueuesAgree v R → QueuesAgree w (rec.Parts u q ∷ R)
parted R v w u q h a = record {
  made = λ k own. h.objects.made k ∙ a.made k own;
  there = λ k own. h.objects.there k ∙ a.there k own;
  line = λ k. h.line k ∙ ap (λ ws. without u ws) (a.line k);
  queue = λ t. h.queue t ∙ go (same t u) (a.queue t);
  has = λ k. h.objects.has k ∙ a.has k;
}
  where
    go : {t : ObjId} (b : Bool) → v.queue t ≡ queue_of R t → cond b None (v.queue t) ≡ unwrap_or (given b None) (queue_of R t)
    go true e = refl
    go false e = e

-- after any record
pub queues-follow : (r : Rec) (R : Log) (v w : Queueing) → Sound R → Allowed R r → QueuesFollow R r v w → QueuesAgree v R → QueuesAgree w (r ∷ R)
queues-follow (rec.Made o f) R v w sound ok h a = born R v w o f sound ok h a
queues-follow (rec.Closed o) R v w sound ok h a = ended R v w o sound ok h a
queues-follow (rec.Prio u p) R v w sound ok h a = record {
  made = λ k own. h.objects.made k ∙ a.made k own;
  there = λ k own. h.objects.there k ∙ a.there k own;
  line = λ k. h.line k ∙ ap (λ ws. shifted u p.0 ws) (a.line k);
  queue = λ t. h.queue t ∙ a.queue t;
  has = λ k. h.objects.has k ∙ a.has k;
}
queues-follow (rec.Joins u q reply) R v w sound ok h a = joined R v w u q reply h a
queues-follow (rec.Parts u q) R v w sound ok h a = parted R v w u q h a
queues-follow _ R v w sound ok h a = rw h (record { made = a.made; there = a.there; line = a.line; queue = a.queue; has = a.has })

-- a queue whose object is there
pub queue-there : (R : Log) (q : Queue) → IsLineThere R q → is_there R (queue_kind q) (queue_object q) ≡ true
queue-there R (Senders e) h = there R kind.Endpoint e h
queue-there R (Receivers e) h = there R kind.Endpoint e h
queue-there R (Waiters n) h = there R kind.Notification n h

-- no thread is in the growing line of an empty queue
pub line-empty : (R : Log) (q : Queue) → Sound R → IsEmptyLine R q → growing_queue R q ≡ []
line-empty R q sound none = go (growing_queue R q) refl
  where
    go : (ws : List Waiter) → growing_queue R q ≡ ws → ws ≡ []
    go [] e = refl
    go (w ∷ ws) e =
        let among : is_among w.thread (growing_queue R q) ≡ true = ap (λ vs. is_among w.thread vs) e ∙ ap (λ b. b || is_among w.thread ws) (same-self w.thread) in
        absurd (none w.thread (is_queue-some (queue_of R w.thread) q (sym (among-line R w.thread q sound) ∙ among)))

-- a queue of an object is one of its kind
queue-of : (o : ObjId) (q : Queue) → is_queue_of o q ≡ true → (queue_object q ≡ o) × (o.kind ≡ queue_kind q)
queue-of o q h =
    let p : (same_kind (queue_object q).kind (queue_kind q) ≡ true) × (same (queue_object q) o ≡ true) = parts _ _ h in
    let it : queue_object q ≡ o = same-equal (queue_object q) o p.1 in
    (it, ap (λ (x : ObjId). x.kind) (sym it) ∙ same_kind-equal (queue_object q).kind (queue_kind q) p.0)

-- the queues of an object that may be closed are there
pub closing-queues : (R : Log) (v : Queueing) (o : ObjId) → Allowed R (rec.Closed o) → QueuesAgree v R → (q : Queue) → is_queue_of o q ≡ true → v.has q ≡ true
closing-queues R v o ok a q h =
    let (it, kind_is) = queue-of o q h in
    a.has q ∙ there R (queue_kind q) (queue_object q) (ap (λ (x : ObjId). x.kind) it ∙ kind_is, ap (λ x. is_alive R x) it ∙ ok.0)

-- and no thread is in them
pub closing-empty : (R : Log) (v : Queueing) (o : ObjId) → Sound R → Allowed R (rec.Closed o) → QueuesAgree v R → (q : Queue) → is_queue_of o q ≡ true → v.line q ≡ []
closing-empty R v o sound ok a q h = let (it, kind_is) = queue-of o q h in a.line q ∙ line-empty R q sound (go q it kind_is)
  where
    go : (q : Queue) → queue_object q ≡ o → o.kind ≡ queue_kind q → IsEmptyLine R q
    go (Senders e) it is = subst (λ x. IsEmptyLine R (Senders x)) (sym it) (released R o kind.Endpoint is ok).0
    go (Receivers e) it is = subst (λ x. IsEmptyLine R (Receivers x)) (sym it) (released R o kind.Endpoint is ok).1
    go (Waiters n) it is = subst (λ x. IsEmptyLine R (Waiters x)) (sym it) (released R o kind.Notification is ok).0
