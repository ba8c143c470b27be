-- The reply objects, their receivers, their debts and the chains follow a record.
use Rattle.std.specs.Option.{IfSome}
use Rattle.std.specs.Prelude.{◌≡◌, ◌&&◌, ◌||◌, Bool, true, false, cond, find, List, [], ◌∷◌, Option, Some, None, unwrap_or}
use Rattle.std.proofs.Common.{refl, ap, sym, ◌∙◌, inl, inr}
use Rattle.mcs_types.specs.declared.id.ObjId.{ObjId}
use Rattle.mcs_types.specs.declared.id.Kind.{Kind}
use Rattle.mcs_types.specs.declared.id.Kind.TheVariants as kind
use Rattle.mcs_types.specs.declared.record.Ending.{Ending}
use Rattle.mcs_types.specs.declared.record.Ending.TheVariants.{Deleted}
use Rattle.mcs_types.specs.declared.record.Form.{Form}
use Rattle.mcs_types.specs.declared.record.Queue.{Queue}
use Rattle.mcs_types.specs.declared.record.Queue.TheVariants.{Senders, Receivers, Waiters}
use Rattle.mcs_types.specs.declared.record.Rec.{Rec}
use Rattle.mcs_types.specs.declared.record.Rec.TheVariants as rec
use Rattle.mcs_types.specs.Chains.{ended, head_of}
use Rattle.mcs_types.specs.Ids.{same, same_kind, value_after}
use Rattle.mcs_types.proofs.Ids.{same-self, same-equal}
use Rattle.mcs_book.specs.Logs.{Log, given}
use Rattle.mcs_types.specs.Ids.{is_just}
use Rattle.mcs_book.specs.Chains.{topped_by}
use Rattle.mcs_book.specs.Objects.{was_made}
use Rattle.mcs_book.specs.Queues.{queue_of, reply_with, receives_at, is_receiving}
use Rattle.mcs_book.specs.Growing.{growing_chain}
use Rattle.mcs_book.specs.Replies.{receiver_with, owed_by}
use Rattle.mcs_book.specs.Sound.{Sound, Allowed, IsThere, IsFreeReply}
use Rattle.mcs_book.specs.Threads.{threads}
use Rattle.mcs_book.proofs.Chains.ChainLaws.{chain_of-growing}
use Rattle.mcs_book.proofs.Chains.GivingBack.{top-found}
use Rattle.mcs_book.proofs.Firm.Laws.{topped-there}
use Rattle.mcs_book.proofs.SoundLogs.KeptLaws.{reply-there, set-split}
use Rattle.mcs_book.proofs.Threads.UserLaws.{one_user, receiver_with-named, receiver_with-found}
use Rattle.mcs_objects.specs.Store.{one_more}
use Rattle.mcs_replies.specs.Owing.{Owing, counts as reply_counts, is_there as has_reply, receiver_in, owed_in, chain_with}
use Rattle.mcs_state.specs.Tables.{RepliesAgree, shape_said, is_there}
use Rattle.mcs_state.specs.Following.{RepliesFollow, RepliesFollowMade, RepliesFollowClosed, AddsReply, ClosesReply, DropsChain, SetsReceiver, SetsAny, AddsDebt, DropsDebt, attended}
use Rattle.mcs_state.proofs.CountLaws.{never-made, shape-made, shape-beside, shape-closed, shape-unclosed}
use Rattle.mcs_state.proofs.Saying.{unsaid}
use Rattle.mcs_state.proofs.ThereLaws.{there-made, there-beside, there-closed, there-unclosed, there, released}

-- what is found by one test is found by another that always agrees
find-same : (p q : ObjId → Bool) (xs : List ObjId) → ((x : ObjId) → p x ≡ q x) → find p xs ≡ find q xs
find-same p q [] h = refl
find-same p q (x ∷ xs) h = rw (h x, find-same p q xs h) refl

-- whether t is queued with r
abbrev stands_with : Log → ObjId → ObjId → Bool
stands_with R r t = is_receiving R t && is_just (reply_with R t) r

-- whether a record makes nothing, and leaves who is in which queue
abbrev is_unmoving : Rec → Bool
is_unmoving (rec.Made o f) = false
is_unmoving (rec.Joins t q reply) = false
is_unmoving (rec.Parts t q) = false
is_unmoving _ = true

-- such a record leaves the receivers
receiver-kept : (r : Rec) (R : Log) (x : ObjId) → is_unmoving r ≡ true → receiver_with (r ∷ R) x ≡ receiver_with R x
unfolding receiver_with
receiver-kept (rec.Made o f) R x h = absurd cc
receiver-kept (rec.Joins t q reply) R x h = absurd cc
receiver-kept (rec.Parts t q) R x h = absurd cc
receiver-kept _ R x h = refl

-- so does the making of an object
receiver-made : (R : Log) (o x : ObjId) (f : Form) → Sound R → was_made R o ≡ false → receiver_with (rec.Made o f ∷ R) x ≡ receiver_with R x
unfolding receiver_with
receiver-made R o x f sound never = go (same_kind o.kind kind.Thread)
  where
    go : (b : Bool) → find (stands_with R x) (cond b (o ∷ threads R) (threads R)) ≡ find (stands_with R x) (threads R)
    go false = refl
    go true = ap (λ q. cond (receives_at q && is_just (reply_with R o) x) (Some o) (find (stands_with R x) (threads R))) (unsaid R o sound never).3

-- a thread that joins another queue, or with another reply object, leaves the receiver
receiver-joined : (R : Log) (u x : ObjId) (q : Queue) (reply : Option ObjId) → queue_of R u ≡ None → (receives_at (Some q) && is_just reply x) ≡ false → receiver_with (rec.Joins u q reply ∷ R) x ≡ receiver_with R x
unfolding receiver_with
receiver-joined R u x q reply idle h = find-same (stands_with (rec.Joins u q reply ∷ R) x) (stands_with R x) (threads R) (λ t. go t (same t u) refl)
  where
    go : (t : ObjId) (b : Bool) → same t u ≡ b → (receives_at (unwrap_or (given b (Some q)) (queue_of R t)) && is_just (unwrap_or (given b reply) (reply_with R t)) x) ≡ stands_with R x t
    go t false e = refl
    go t true e = h ∙ sym (ap (λ k. receives_at k && is_just (reply_with R t) x) (ap (λ y. queue_of R y) (same-equal t u e) ∙ idle))

-- and so does one that leaves such a queue
receiver-parted : (R : Log) (u x : ObjId) (q : Queue) → queue_of R u ≡ Some q → (receives_at (Some q) && is_just (reply_with R u) x) ≡ false → receiver_with (rec.Parts u q ∷ R) x ≡ receiver_with R x
unfolding receiver_with
receiver-parted R u x q stands h = find-same (stands_with (rec.Parts u q ∷ R) x) (stands_with R x) (threads R) (λ t. go t (same t u) refl)
  where
    go : (t : ObjId) (b : Bool) → same t u ≡ b → (receives_at (unwrap_or (given b None) (queue_of R t)) && is_just (reply_with R t) x) ≡ stands_with R x t
    go t false e = refl
    go t true e = let it = same-equal t u e in sym (ap (λ y. receives_at (queue_of R y) && is_just (reply_with R y) x) it ∙ ap (λ k. receives_at k && is_just (reply_with R u) x) stands ∙ h)

-- the log says of the reply objects what it said
still : (R S : Log) (v w : Owing) → w ≡ v → shape_said kind.Reply R ≡ shape_said kind.Reply S → ((x : ObjId) → is_there R kind.Reply x ≡ is_there S kind.Reply x) → ((x : ObjId) → receiver_with S x ≡ receiver_with R x)
    → ((x : ObjId) → owed_by R x ≡ owed_by S x) → ((s : ObjId) → growing_chain R s ≡ growing_chain S s) → RepliesAgree v R → RepliesAgree w S
still R S v w is counts there receivers owed chains a = rw is (record {
  counts = a.counts ∙ counts;
  there = λ x. a.there x ∙ there x;
  receivers = λ x. a.receivers x ∙ sym (receivers x);
  owed = λ x. a.owed x ∙ owed x;
  chains = λ s. a.chains s ∙ chains s;
})

-- a reply object was made
added : (R : Log) (v w : Owing) (o : ObjId) (f : Form) → Sound R → Allowed R (rec.Made o f) → o.kind ≡ kind.Reply → AddsReply o v w → RepliesAgree v R → RepliesAgree w (rec.Made o f ∷ R)
added R v w o f sound ok is h a = record {
  counts = h.counts ∙ ap one_more a.counts ∙ shape-made R o f kind.Reply sound ok (ap (λ k. same_kind k kind.Reply) is);
  there = λ x. h.there x ∙ ap (λ b. value_after x o true b) (a.there x) ∙ go x (same x o) refl ∙ there-made R o x f kind.Reply sound never;
  receivers = λ x. h.receivers x ∙ a.receivers x ∙ sym (receiver-made R o x f sound never);
  owed = λ x. h.debts.owed x ∙ a.owed x;
  chains = λ s. h.debts.chains s ∙ a.chains s;
}
  where
    never : was_made R o ≡ false
    never = never-made R o f sound ok

    either : (b c : Bool) → c ≡ ((b && false) || c)
    either true c = refl
    either false c = refl

    go : (x : ObjId) (b : Bool) → same x o ≡ b → cond b true (is_there R kind.Reply x) ≡ ((same_kind x.kind kind.Reply && b) || is_there R kind.Reply x)
    go x false e = either (same_kind x.kind kind.Reply) (is_there R kind.Reply x)
    go x true e = sym (ap (λ b. (b && true) || is_there R kind.Reply x) (ap (λ (y : ObjId). same_kind y.kind kind.Reply) (same-equal x o e) ∙ ap (λ k. same_kind k kind.Reply) is))

-- an object of another kind was made
beside : (R : Log) (v w : Owing) (o : ObjId) (f : Form) → Sound R → Allowed R (rec.Made o f) → same_kind o.kind kind.Reply ≡ false → w ≡ v → RepliesAgree v R → RepliesAgree w (rec.Made o f ∷ R)
beside R v w o f sound ok other is a =
    still R (rec.Made o f ∷ R) v w is (shape-beside R o f kind.Reply sound ok other) (λ x. there-beside R o x f kind.Reply other) (λ x. receiver-made R o x f sound (never-made R o f sound ok)) (λ x. refl) (λ s. refl) a

born : (R : Log) (v w : Owing) (o : ObjId) (f : Form) → Sound R → Allowed R (rec.Made o f) → RepliesFollowMade o.kind o v w → RepliesAgree v R → RepliesAgree w (rec.Made o f ∷ R)
born R v w o f sound ok h a = go o.kind refl h
  where
    go : (k : Kind) → o.kind ≡ k → RepliesFollowMade k o v w → RepliesAgree w (rec.Made o f ∷ R)
    go kind.Reply e h = added R v w o f sound ok e h a
    go kind.CNode e h = beside R v w o f sound ok (ap (λ k. same_kind k kind.Reply) e) h a
    go kind.Thread e h = beside R v w o f sound ok (ap (λ k. same_kind k kind.Reply) e) h a
    go kind.Endpoint e h = beside R v w o f sound ok (ap (λ k. same_kind k kind.Reply) e) h a
    go kind.Notification e h = beside R v w o f sound ok (ap (λ k. same_kind k kind.Reply) e) h a
    go kind.Context e h = beside R v w o f sound ok (ap (λ k. same_kind k kind.Reply) e) h a

-- a context alone has a chain
unchained : (R : Log) (s : ObjId) → Sound R → same_kind s.kind kind.Context ≡ false → growing_chain R s ≡ []
unchained R s sound other = go (growing_chain R s) refl
  where
    go : (os : List ObjId) → growing_chain R s ≡ os → os ≡ []
    go [] e = refl
    go (r ∷ os) e =
        let topped : topped_by R r ≡ Some s = top-found R s r sound (ap head_of (chain_of-growing R s sound ∙ e)) in
        let no : true ≡ false = ap (λ k. same_kind k kind.Context) (sym (topped-there R r s topped).0) ∙ other in
        absurd cc

-- so the end of another object leaves the chains
chain-unclosed : (R : Log) (o s : ObjId) → Sound R → same_kind o.kind kind.Context ≡ false → growing_chain R s ≡ growing_chain (rec.Closed o ∷ R) s
chain-unclosed R o s sound other = go (same s o) refl
  where
    go : (b : Bool) → same s o ≡ b → growing_chain R s ≡ cond b [] (growing_chain R s)
    go false e = refl
    go true e = ap (λ x. growing_chain R x) (same-equal s o e) ∙ unchained R o sound other

-- a reply object was closed
closed : (R : Log) (v w : Owing) (o : ObjId) → Sound R → Allowed R (rec.Closed o) → o.kind ≡ kind.Reply → ClosesReply o v w → RepliesAgree v R → RepliesAgree w (rec.Closed o ∷ R)
closed R v w o sound ok is h a = record {
  counts = shape-closed R o kind.Reply (reply_counts v) (reply_counts w) sound ok (ap (λ k. same_kind k kind.Reply) is) h.counts a.counts;
  there = λ x. h.there x ∙ ap (λ b. value_after x o false b) (a.there x) ∙ there-closed R o x kind.Reply;
  receivers = λ x. h.receivers x ∙ a.receivers x ∙ sym (receiver-kept (rec.Closed o) R x refl);
  owed = λ x. h.debts.owed x ∙ a.owed x;
  chains = λ s. h.debts.chains s ∙ a.chains s ∙ chain-unclosed R o s sound (ap (λ k. same_kind k kind.Context) is);
}

-- a context was closed, and its chain with it
unlinked : (R : Log) (v w : Owing) (o : ObjId) → Sound R → Allowed R (rec.Closed o) → o.kind ≡ kind.Context → DropsChain o v w → RepliesAgree v R → RepliesAgree w (rec.Closed o ∷ R)
unlinked R v w o sound ok is h a =
    let other : same_kind o.kind kind.Reply ≡ false = ap (λ k. same_kind k kind.Reply) is in
    record {
      counts = h.same.objects.counts ∙ a.counts ∙ shape-unclosed R o kind.Reply sound ok other;
      there = λ x. h.same.objects.there x ∙ a.there x ∙ there-unclosed R o x kind.Reply other;
      receivers = λ x. h.same.receivers x ∙ a.receivers x ∙ sym (receiver-kept (rec.Closed o) R x refl);
      owed = λ x. h.owed x ∙ a.owed x;
      chains = λ s. h.chains s ∙ ap (λ os. value_after s o [] os) (a.chains s);
    }

-- an object was closed that is neither
unclosed-reply : (R : Log) (v w : Owing) (o : ObjId) → Sound R → Allowed R (rec.Closed o) → same_kind o.kind kind.Reply ≡ false → same_kind o.kind kind.Context ≡ false → w ≡ v → RepliesAgree v R → RepliesAgree w (rec.Closed o ∷ R)
unclosed-reply R v w o sound ok other beside_contexts is a =
    still R (rec.Closed o ∷ R) v w is (shape-unclosed R o kind.Reply sound ok other) (λ x. there-unclosed R o x kind.Reply other) (λ x. receiver-kept (rec.Closed o) R x refl) (λ x. refl) (λ s. chain-unclosed R o s sound beside_contexts) a

finished : (R : Log) (v w : Owing) (o : ObjId) → Sound R → Allowed R (rec.Closed o) → RepliesFollowClosed o.kind o v w → RepliesAgree v R → RepliesAgree w (rec.Closed o ∷ R)
finished R v w o sound ok h a = go o.kind refl h
  where
    go : (k : Kind) → o.kind ≡ k → RepliesFollowClosed k o v w → RepliesAgree w (rec.Closed o ∷ R)
    go kind.Reply e h = closed R v w o sound ok e h a
    go kind.Context e h = unlinked R v w o sound ok e h a
    go kind.CNode e h = unclosed-reply R v w o sound ok (ap (λ k. same_kind k kind.Reply) e) (ap (λ k. same_kind k kind.Context) e) h a
    go kind.Thread e h = unclosed-reply R v w o sound ok (ap (λ k. same_kind k kind.Reply) e) (ap (λ k. same_kind k kind.Context) e) h a
    go kind.Endpoint e h = unclosed-reply R v w o sound ok (ap (λ k. same_kind k kind.Reply) e) (ap (λ k. same_kind k kind.Context) e) h a
    go kind.Notification e h = unclosed-reply R v w o sound ok (ap (λ k. same_kind k kind.Reply) e) (ap (λ k. same_kind k kind.Context) e) h a

-- the receiver of one reply object was set, and the others stay; else the log says what it said
set : (R S : Log) (v w : Owing) (r : ObjId) (t : Option ObjId) → SetsReceiver r t v w → receiver_with S r ≡ t → ((x : ObjId) → same x r ≡ false → receiver_with S x ≡ receiver_with R x)
    → shape_said kind.Reply R ≡ shape_said kind.Reply S → ((x : ObjId) → is_there R kind.Reply x ≡ is_there S kind.Reply x) → ((x : ObjId) → owed_by R x ≡ owed_by S x) → ((s : ObjId) → growing_chain R s ≡ growing_chain S s) → RepliesAgree v R → RepliesAgree w S
set R S v w r t h here others counts there owed chains a = record {
  counts = h.objects.counts ∙ a.counts ∙ counts;
  there = λ x. h.objects.there x ∙ a.there x ∙ there x;
  receivers = λ x. h.receivers x ∙ ap (λ o. value_after x r t o) (a.receivers x) ∙ go x (same x r) refl;
  owed = λ x. h.debts.owed x ∙ a.owed x ∙ owed x;
  chains = λ s. h.debts.chains s ∙ a.chains s ∙ chains s;
}
  where
    go : (x : ObjId) (b : Bool) → same x r ≡ b → cond b t (receiver_with R x) ≡ receiver_with S x
    go x false e = sym (others x e)
    go x true e = sym (ap (λ y. receiver_with S y) (same-equal x r e) ∙ here)

-- a test of a reply object that is not this one
not-it : (x r : ObjId) → same x r ≡ false → same r x ≡ false
not-it x r e = go (same r x) refl
  where
    go : (b : Bool) → same r x ≡ b → b ≡ false
    go false f = refl
    go true f = let no : true ≡ false = sym (same-self x) ∙ ap (λ y. same x y) (sym (same-equal r x f)) ∙ e in absurd cc

-- a thread joined a queue, where no receiver is set by it
aside : (R : Log) (v w : Owing) (u : ObjId) (q : Queue) (reply : Option ObjId) → queue_of R u ≡ None → ((x : ObjId) → (receives_at (Some q) && is_just reply x) ≡ false) → w ≡ v → RepliesAgree v R → RepliesAgree w (rec.Joins u q reply ∷ R)
aside R v w u q reply idle none is a = still R (rec.Joins u q reply ∷ R) v w is refl (λ x. refl) (λ x. receiver-joined R u x q reply idle (none x)) (λ x. refl) (λ s. refl) a

-- a thread joined a queue
joined : (R : Log) (v w : Owing) (u : ObjId) (q : Queue) (reply : Option ObjId) → Sound R → Allowed R (rec.Joins u q reply) → SetsAny (attended q reply) (Some u) v w → RepliesAgree v R → RepliesAgree w (rec.Joins u q reply ∷ R)
joined R v w u (Receivers e) (Some r) sound ok h a =
    set R (rec.Joins u (Receivers e) (Some r) ∷ R) v w r (Some u) h (receiver_with-found (rec.Joins u (Receivers e) (Some r) ∷ R) r u e (ok, sound) (rw (same-self u) refl) (rw (same-self u) refl))
    (λ x other. receiver-joined R u x (Receivers e) (Some r) ok.1.0 (not-it x r other)) refl (λ x. refl) (λ x. refl) (λ s. refl) a
joined R v w u (Receivers e) None sound ok h a = aside R v w u (Receivers e) None ok.1.0 (λ x. refl) h a
joined R v w u (Senders e) reply sound ok h a = aside R v w u (Senders e) reply ok.1.0 (λ x. refl) h a
joined R v w u (Waiters n) reply sound ok h a = aside R v w u (Waiters n) reply ok.1.0 (λ x. refl) h a

-- no thread is queued with a reply object once its receiver left
unattended : (R : Log) (u r e : ObjId) → Sound R → queue_of R u ≡ Some (Receivers e) → reply_with R u ≡ Some r → receiver_with (rec.Parts u (Receivers e) ∷ R) r ≡ None
unattended R u r e sound stands named = go (receiver_with (rec.Parts u (Receivers e) ∷ R) r) refl
  where
    go : (o : Option ObjId) → receiver_with (rec.Parts u (Receivers e) ∷ R) r ≡ o → o ≡ None
    go None is = refl
    go (Some t) is =
        let found = receiver_with-named (rec.Parts u (Receivers e) ∷ R) r t is in
        elim (set-split t u None (queue_of R t) (Some (Receivers found.0.0)) found.0.1) [
          | inl (who, gone) ↦ absurd cc
          | inr (other, still) ↦ (let it = one_user R t u found.0.0 e r sound still found.1 stands named in let no : true ≡ false = sym (same-self u) ∙ ap (λ y. same y u) (sym it) ∙ other in absurd cc)
        ]

-- a thread left its queue, where no receiver is set by it
gone : (R : Log) (v w : Owing) (u : ObjId) (q : Queue) → queue_of R u ≡ Some q → ((x : ObjId) → (receives_at (Some q) && is_just (reply_with R u) x) ≡ false) → w ≡ v → RepliesAgree v R → RepliesAgree w (rec.Parts u q ∷ R)
gone R v w u q stands none is a = still R (rec.Parts u q ∷ R) v w is refl (λ x. refl) (λ x. receiver-parted R u x q stands (none x)) (λ x. refl) (λ s. refl) a

-- a thread left its queue
parted : (R : Log) (v w : Owing) (u : ObjId) (q : Queue) (reply : Option ObjId) → Sound R → queue_of R u ≡ Some q → reply_with R u ≡ reply → SetsAny (attended q reply) None v w → RepliesAgree v R → RepliesAgree w (rec.Parts u q ∷ R)
parted R v w u (Receivers e) (Some r) sound stands is h a =
    set R (rec.Parts u (Receivers e) ∷ R) v w r None h (unattended R u r e sound stands is)
    (λ x other. receiver-parted R u x (Receivers e) stands (ap (λ d. is_just d x) is ∙ not-it x r other)) refl (λ x. refl) (λ x. refl) (λ s. refl) a
parted R v w u (Receivers e) None sound stands is h a = gone R v w u (Receivers e) stands (λ x. ap (λ d. is_just d x) is) h a
parted R v w u (Senders e) reply sound stands is h a = gone R v w u (Senders e) stands (λ x. refl) h a
parted R v w u (Waiters n) reply sound stands is h a = gone R v w u (Waiters n) stands (λ x. refl) h a

-- a value that is set, or what was
set-or : {A : Type 0} (b : Bool) (v o p : A) → o ≡ p → cond b v o ≡ unwrap_or (given b v) p
set-or true v o p e = refl
set-or false v o p e = e

-- a debt began
begun : (R : Log) (v w : Owing) (d x : ObjId) (s : Option ObjId) → AddsDebt d x s v w → RepliesAgree v R → RepliesAgree w (rec.Owes d x s ∷ R)
begun R v w d x s h a = record {
  counts = h.same.objects.counts ∙ a.counts;
  there = λ y. h.same.objects.there y ∙ a.there y;
  receivers = λ y. h.same.receivers y ∙ a.receivers y ∙ sym (receiver-kept (rec.Owes d x s) R y refl);
  owed = λ y. h.owed y ∙ set-or (same y d) (Some x) _ _ (a.owed y);
  chains = λ y. h.chains y ∙ ap (λ os. chain_with s d y os) (a.chains y);
}

-- a debt ended between R and S
dropped : (R S : Log) (v w : Owing) (d : ObjId) (how : Ending) → DropsDebt d how v w → shape_said kind.Reply R ≡ shape_said kind.Reply S → ((x : ObjId) → is_there R kind.Reply x ≡ is_there S kind.Reply x) → ((x : ObjId) → receiver_with S x ≡ receiver_with R x)
    → ((x : ObjId) → owed_by S x ≡ unwrap_or (given (same x d) None) (owed_by R x)) → ((s : ObjId) → growing_chain S s ≡ ended how d (growing_chain R s)) → RepliesAgree v R → RepliesAgree w S
dropped R S v w d how h counts there receivers owed chains a = record {
  counts = h.same.objects.counts ∙ a.counts ∙ counts;
  there = λ y. h.same.objects.there y ∙ a.there y ∙ there y;
  receivers = λ y. h.same.receivers y ∙ a.receivers y ∙ sym (receivers y);
  owed = λ y. h.owed y ∙ set-or (same y d) None _ _ (a.owed y) ∙ sym (owed y);
  chains = λ y. h.chains y ∙ ap (λ os. ended how d os) (a.chains y) ∙ sym (chains y);
}

-- after any record
pub replies-follow : (r : Rec) (R : Log) (v w : Owing) → Sound R → Allowed R r → RepliesFollow R r v w → RepliesAgree v R → RepliesAgree w (r ∷ R)
replies-follow (rec.Made o f) R v w sound ok h a = born R v w o f sound ok h a
replies-follow (rec.Closed o) R v w sound ok h a = finished R v w o sound ok h a
replies-follow (rec.Joins u q reply) R v w sound ok h a = joined R v w u q reply sound ok h a
replies-follow (rec.Parts u q) R v w sound ok h a = parted R v w u q (reply_with R u) sound ok refl h a
replies-follow (rec.Owes d x s) R v w sound ok h a = begun R v w d x s h a
replies-follow (rec.Paid d x message) R v w sound ok h a = dropped R (rec.Paid d x message ∷ R) v w d Deleted h refl (λ y. refl) (λ y. receiver-kept (rec.Paid d x message) R y refl) (λ y. refl) (λ s. refl) a
replies-follow (rec.Void d x how) R v w sound ok h a = dropped R (rec.Void d x how ∷ R) v w d how h refl (λ y. refl) (λ y. receiver-kept (rec.Void d x how) R y refl) (λ y. refl) (λ s. refl) a
replies-follow r R v w sound ok h a = still R (r ∷ R) v w h refl (λ y. refl) (λ y. receiver-kept r R y refl) (λ y. refl) (λ s. refl) a

-- the reply object that a thread names as it joins a queue is in the table
pub named-there : (R : Log) (v : Owing) (q : Queue) (reply : Option ObjId) → RepliesAgree v R → IfSome reply (λ r. IsThere R kind.Reply r × IsFreeReply R r) → IfSome (attended q reply) (λ r. has_reply v r ≡ true)
named-there R v (Receivers e) (Some r) a h = a.there r ∙ there R kind.Reply r h.0
named-there R v (Receivers e) None a h = tt
named-there R v (Senders e) reply a h = tt
named-there R v (Waiters n) reply a h = tt

-- and so is the one with which it is
pub attended-there : (R : Log) (v : Owing) (u : ObjId) (q : Queue) → Sound R → queue_of R u ≡ Some q → RepliesAgree v R → IfSome (attended q (reply_with R u)) (λ r. has_reply v r ≡ true)
attended-there R v u (Receivers e) sound stands a = go (reply_with R u) refl
  where
    go : (o : Option ObjId) → reply_with R u ≡ o → IfSome o (λ r. has_reply v r ≡ true)
    go None e = tt
    go (Some r) is = a.there r ∙ there R kind.Reply r (reply-there R u e r sound stands is).0
attended-there R v u (Senders e) sound stands a = tt
attended-there R v u (Waiters n) sound stands a = tt

-- a reply object that may be closed is there, and no thread uses it
pub closing-reply : (R : Log) (v : Owing) (r : ObjId) → r.kind ≡ kind.Reply → Allowed R (rec.Closed r) → RepliesAgree v R → has_reply v r ≡ true
closing-reply R v r is ok a = a.there r ∙ there R kind.Reply r (is, ok.0)

pub closing-unowing : (R : Log) (v : Owing) (r : ObjId) → r.kind ≡ kind.Reply → Allowed R (rec.Closed r) → RepliesAgree v R → owed_in v r ≡ None
closing-unowing R v r is ok a = a.owed r ∙ (released R r kind.Reply is ok).0

pub closing-unattended : (R : Log) (v : Owing) (r : ObjId) → r.kind ≡ kind.Reply → Allowed R (rec.Closed r) → RepliesAgree v R → receiver_in v r ≡ None
closing-unattended R v r is ok a = a.receivers r ∙ go (receiver_with R r) refl
  where
    go : (o : Option ObjId) → receiver_with R r ≡ o → o ≡ None
    go None e = refl
    go (Some t) e = let named = receiver_with-named R r t e in absurd ((released R r kind.Reply is ok).1 t named.0.0 named.0.1 named.1)
