-- Firm logs: each record was allowed, and some more held, which the records of legal books keep.
-- What follows of those.
use Rattle.std.specs.Prelude.{ℕ, ◌<◌, ◌^◌, Bool, true, false, cond, not, ◌&&◌, ◌||◌, ◌==◌, ◌≡◌, List, [], ◌∷◌, Option, Some, None, refl, find, is_none, is_some, option_and_then}
use Rattle.std.specs.List.{list_any}
use Rattle.std.proofs.Common.{sym, ◌∙◌, ap, inl, inr, arith, subst}
use Rattle.std.proofs.lemmas.Bool.{eqb-true}
use Rattle.mcs_types.specs.declared.id.ObjId.{ObjId}
use Rattle.mcs_types.specs.declared.id.CoreId.{CoreId}
use Rattle.mcs_types.specs.declared.id.Kind.{Kind}
use Rattle.mcs_types.specs.declared.id.Kind.TheVariants as kind
use Rattle.mcs_types.specs.declared.cap.Cap.{Cap}
use Rattle.mcs_types.specs.declared.record.Form.{Form}
use Rattle.mcs_types.specs.declared.record.Form.TheVariants as form
use Rattle.mcs_types.specs.declared.record.Letter.{Letter}
use Rattle.mcs_types.specs.declared.record.Queue.TheVariants.{Waiters}
use Rattle.mcs_types.specs.declared.record.Rec.{Rec}
use Rattle.mcs_types.specs.declared.record.Rec.TheVariants as rec
use Rattle.mcs_types.specs.Ids.{same, same_kind}
use Rattle.mcs_book.specs.Logs.{Log}
use Rattle.mcs_types.specs.Ids.{is_just}
use Rattle.mcs_book.specs.Objects.{made_of, was_made, was_closed, form_of}
use Rattle.mcs_book.specs.Slots.{slot}
use Rattle.mcs_book.specs.Threads.{threads, root_kept, root_of}
use Rattle.mcs_types.specs.Chains.{head_of}
use Rattle.mcs_book.specs.Queues.{queue_of}
use Rattle.mcs_book.specs.Messages.{next_message, letter, settles, is_open}
use Rattle.mcs_book.specs.Contexts.{contexts, context_of, holder_of, home_of, homed_at}
use Rattle.mcs_book.specs.Replies.{replies, owed_by, owing}
use Rattle.mcs_book.specs.Chains.{chain_of, topped_by, kept, is_unlent}
use Rattle.mcs_book.specs.Signalling.{if_spare, spare_at}
use Rattle.mcs_book.specs.Notifications.{bound_of, tied_to}
use Rattle.mcs_book.specs.Each.{Each}
use Rattle.mcs_book.specs.Fair.{TakesAlive, TakesFirst}
use Rattle.mcs_book.specs.Sound.{Allowed, Sound, IsThere, IsFormOf, IsOwedNothing, IsEmptyLine, HoldsNone, IsUnbound, IsNoHome}
use Rattle.mcs_types.proofs.Ids.{same-self, same_kind-equal, parts, both}
use Rattle.mcs_book.proofs.Objects.Same.{is_just-some}
use Rattle.mcs_book.proofs.Queues.Sorted.{In}
use Rattle.mcs_book.proofs.Objects.MadeLaws.{made-in, alive-made}
use Rattle.mcs_book.proofs.Messages.MessageLaws.{find-passes, letter-below}
use Rattle.mcs_book.proofs.Queues.NoneBeside.{made-more}
use Rattle.mcs_book.proofs.Threads.HoldingLaws.{find-alone, holder-context_of}
use Rattle.mcs_book.proofs.SoundLogs.KeptLaws.{given-split, set-split, never-both, there-next, there-closed, owed-there, owed-one, bound-there, home-there, home-one}

-- what is kept of a record beside what is allowed: of roots, badges, waiters, and of messages that
-- are taken
abbrev pub Also : Log → Rec → Type 0
Also R (rec.Made o (form.Runner maximum root)) = IsThere R kind.CNode root.obj
Also R (rec.Slot c i (Some cap)) = cap.badge.0 < 2 ^ 64
Also R (rec.Joins t (Waiters n) reply) = (u : ObjId) → bound_of R u ≡ Some n → u ≡ t
Also R (rec.Tied t (Some n)) = IsEmptyLine R (Waiters n)
Also R (rec.Took m p) = TakesAlive R (rec.Took m p) × TakesFirst R (rec.Took m p)
Also R _ = Unit {0}

-- a record that was allowed, and more
abbrev pub Strict : Log → Rec → Type 0
Strict R r = Allowed R r × Also R r

-- a log of such records
abbrev pub Firm : Log → Type 0
Firm R = Each Strict R

-- what holds of each record, where more does
pub each-weaker : (P Q : Log → Rec → Type 0) → ((R : Log) (r : Rec) → P R r → Q R r) → (R : Log) → Each P R → Each Q R
each-weaker P Q f [] h = tt
each-weaker P Q f (r ∷ R) h = (f R r h.0, each-weaker P Q f R h.1)

-- such a log is sound
pub firm-sound : (R : Log) → Firm R → Sound R
firm-sound = each-weaker Strict Allowed (λ R r h. h.0)

-- a slot holds a badge of 64 bits
pub slot-badge : (R : Log) (c : ObjId) (i : ℕ) (cap : Cap) → Firm R → slot R c i ≡ Some cap → cap.badge.0 < 2 ^ 64
slot-badge [] c i cap firm h = absurd cc
slot-badge (rec.Slot d j None ∷ R) c i cap firm h = elim (given-split (same c d && (i == j)) None (slot R c i) (Some cap) h) [ inl (at, is) ↦ absurd cc | inr (other, is) ↦ slot-badge R c i cap firm.1 is ]
slot-badge (rec.Slot d j (Some held) ∷ R) c i cap firm h = elim (given-split (same c d && (i == j)) (Some held) (slot R c i) (Some cap) h) [
  | inl (at, is) ↦ (let it : held ≡ cap = cc in subst (λ (z : Cap). z.badge.0 < 2 ^ 64) it firm.0.1)
  | inr (other, is) ↦ slot-badge R c i cap firm.1 is
]
slot-badge (_ ∷ R) c i cap firm h = slot-badge R c i cap firm.1 h

-- the root in a thread's form is a CNode that is there
form-root : (R : Log) (t : ObjId) (f : Form) (root : Cap) → Firm R → form_of R t ≡ Some f → root_kept f ≡ Some root → IsThere R kind.CNode root.obj
form-root [] t f root firm h k = absurd cc
form-root (rec.Made o (form.Runner maximum kept) ∷ R) t f root firm h k = there-next R (rec.Made o (form.Runner maximum kept)) kind.CNode root.obj (elim (set-split t o (Some (form.Runner maximum kept)) (form_of R t) (Some f) h) [
  | inl (who, is) ↦ (let it : form.Runner maximum kept ≡ f = cc in let same_root : Some kept ≡ Some root = ap root_kept it ∙ k in let at : kept ≡ root = cc in subst (λ (z : Cap). IsThere R kind.CNode z.obj) at firm.0.1)
  | inr (other, is) ↦ form-root R t f root firm.1 is k
]) refl
form-root (rec.Made o g ∷ R) t f root firm h k = there-next R (rec.Made o g) kind.CNode root.obj (elim (set-split t o (Some g) (form_of R t) (Some f) h) [
  | inl (who, is) ↦ (let it : g ≡ f = cc in let no : None ≡ Some root = ap root_kept it ∙ k in absurd cc)
  | inr (other, is) ↦ form-root R t f root firm.1 is k
]) refl
form-root (rec.Closed o ∷ R) t f root firm h k = there-closed R o root.obj kind.CNode firm.0.0 (form-root R t f root firm.1 h k) (λ r. r)
form-root (r ∷ R) t f root firm h k = there-next R r kind.CNode root.obj (form-root R t f root firm.1 h k) refl

-- a thread's root is a capability to a CNode that is there
pub root-there : (R : Log) (t : ObjId) (root : Cap) → Firm R → root_of R t ≡ Some root → IsThere R kind.CNode root.obj
root-there R t root firm h = go (form_of R t) refl h
  where
    go : (o : Option Form) → form_of R t ≡ o → option_and_then root_kept o ≡ Some root → IsThere R kind.CNode root.obj
    go None is k = absurd cc
    go (Some f) is k = form-root R t f root firm is k

-- a form of a core names one of 16
form-core : (k : Kind) (f : Form) (c : CoreId) → IsFormOf k f → f ≡ form.OnCore c → c.0 < 16
form-core kind.Context (form.OnCore core) c h e = let it : core ≡ c = cc in subst (λ (z : CoreId). z.0 < 16) it h
form-core k (form.OnCore core) c h e = absurd h
form-core k f c h e = absurd cc

-- the core of a context is one of 16
pub core-small : (R : Log) (s : ObjId) (c : CoreId) → Sound R → form_of R s ≡ Some (form.OnCore c) → c.0 < 16
core-small [] s c sound h = absurd cc
core-small (rec.Made o f ∷ R) s c sound h = elim (set-split s o (Some f) (form_of R s) (Some (form.OnCore c)) h) [ inl (who, is) ↦ (let it : f ≡ form.OnCore c = cc in form-core o.kind f c sound.0.1 it) | inr (other, is) ↦ core-small R s c sound.1 is ]
core-small (_ ∷ R) s c sound h = core-small R s c sound.1 h

-- who waits on a bound notification is the thread bound to it
pub waiter-bound : (R : Log) (w n u : ObjId) → Firm R → queue_of R w ≡ Some (Waiters n) → bound_of R u ≡ Some n → u ≡ w
waiter-bound [] w n u firm h b = absurd cc
waiter-bound (rec.Joins v (Waiters m) reply ∷ R) w n u firm h b = elim (set-split w v (Some (Waiters m)) (queue_of R w) (Some (Waiters n)) h) [
  | inl (who, is) ↦ (let it : m ≡ n = cc in firm.0.1 u (b ∙ ap (λ z. Some z) (sym it)) ∙ sym who)
  | inr (other, is) ↦ waiter-bound R w n u firm.1 is b
]
waiter-bound (rec.Joins v k reply ∷ R) w n u firm h b = elim (set-split w v (Some k) (queue_of R w) (Some (Waiters n)) h) [ inl (who, is) ↦ absurd cc | inr (other, is) ↦ waiter-bound R w n u firm.1 is b ]
waiter-bound (rec.Parts v k ∷ R) w n u firm h b = elim (set-split w v None (queue_of R w) (Some (Waiters n)) h) [ inl (who, is) ↦ absurd cc | inr (other, is) ↦ waiter-bound R w n u firm.1 is b ]
waiter-bound (rec.Tied v None ∷ R) w n u firm h b = elim (set-split u v None (bound_of R u) (Some n) b) [ inl (who, is) ↦ absurd cc | inr (other, is) ↦ waiter-bound R w n u firm.1 h is ]
waiter-bound (rec.Tied v (Some m) ∷ R) w n u firm h b = elim (set-split u v (Some m) (bound_of R u) (Some n) b) [
  | inl (who, is) ↦ (let it : m ≡ n = cc in absurd (firm.0.1 w (h ∙ ap (λ z. Some (Waiters z)) (sym it))))
  | inr (other, is) ↦ waiter-bound R w n u firm.1 h is
]
waiter-bound (_ ∷ R) w n u firm h b = waiter-bound R w n u firm.1 h b

-- no value, by the test
pub none-is : {A : Type 0} (o : Option A) → is_none o ≡ true → o ≡ None
none-is None h = refl
none-is (Some x) h = absurd cc

-- nothing is found, so nothing that is in the list passes
find-misses : (p : ObjId → Bool) (xs : List ObjId) (y : ObjId) → In y xs → p y ≡ true → find p xs ≡ None → ⊥
find-misses p [] y i h none = i
find-misses p (x ∷ xs) y i h none = go (p x) refl i none (λ j k. find-misses p xs y j h k)
  where
    go : (b : Bool) → p x ≡ b → In y (x ∷ xs) → cond b (Some x) (find p xs) ≡ None → (In y xs → find p xs ≡ None → ⊥) → ⊥
    go true e i none later = absurd cc
    go false e (inl s) none later = let no : true ≡ false = sym h ∙ ap p s ∙ e in absurd cc
    go false e (inr j) none later = later j none

-- what is found is in the list
pub find-in : (p : ObjId → Bool) (xs : List ObjId) (y : ObjId) → find p xs ≡ Some y → In y xs
find-in p [] y h = absurd cc
find-in p (x ∷ xs) y h = go (p x) h (find-in p xs y)
  where
    go : (b : Bool) → cond b (Some x) (find p xs) ≡ Some y → (find p xs ≡ Some y → In y xs) → In y (x ∷ xs)
    go true e later = let it : x ≡ y = cc in inl (sym it)
    go false e later = inr (later e)

-- who is among the objects of a kind was made, and is of that kind
pub in-made : (R : Log) (o : ObjId) (k : Kind) → In o (made_of R k) → (o.kind ≡ k) × (was_made R o ≡ true)
in-made [] o k i = absurd i
in-made (rec.Made d form ∷ R) o k i = go (same_kind d.kind k) refl i (in-made R o k)
  where
    go : (b : Bool) → same_kind d.kind k ≡ b → In o (cond b (d ∷ made_of R k) (made_of R k)) → (In o (made_of R k) → (o.kind ≡ k) × (was_made R o ≡ true)) → (o.kind ≡ k) × ((same o d || was_made R o) ≡ true)
    go true e (inl is) later = (ap (λ (z : ObjId). z.kind) is ∙ same_kind-equal d.kind k e, ap (λ b. b || was_made R o) (ap (λ (z : ObjId). same o z) (sym is) ∙ same-self o))
    go true e (inr j) later = let f : (o.kind ≡ k) × (was_made R o ≡ true) = later j in (f.0, made-more _ _ f.1)
    go false e j later = let f : (o.kind ≡ k) × (was_made R o ≡ true) = later j in (f.0, made-more _ _ f.1)
in-made (_ ∷ R) o k i = in-made R o k i

-- no reply object that owes x is found, so none does
pub owing-none : (R : Log) (x : ObjId) → Sound R → owing R x ≡ None → IsOwedNothing R x
unfolding owing
owing-none R x sound none r o =
    let f : IsThere R kind.Reply r × IsThere R kind.Thread x = owed-there R r x sound o in
    find-misses (λ r. is_just (owed_by R r) x) (replies R) r (made-in R r kind.Reply f.0.0 (alive-made R r f.0.1)) (ap (λ d. is_just d x) o ∙ same-self x) none

-- the one that is found owes x
pub owing-owed : (R : Log) (x r : ObjId) → owing R x ≡ Some r → owed_by R r ≡ Some x
unfolding owing
owing-owed R x r h = is_just-some (owed_by R r) x (find-passes (λ r. is_just (owed_by R r) x) (replies R) r h)

-- and the one that owes x is found
pub owed-owing : (R : Log) (x r : ObjId) → Sound R → owed_by R r ≡ Some x → owing R x ≡ Some r
unfolding owing
owed-owing R x r sound h =
    let there = (owed-there R r x sound h).0 in
    find-alone (λ r. is_just (owed_by R r) x) (replies R) r (made-in R r kind.Reply there.0 (alive-made R r there.1)) (ap (λ o. is_just o x) h ∙ same-self x)
    (λ z is. owed-one R z r x sound (is_just-some (owed_by R z) x is) h)

-- who has no context holds none
pub context-none : (R : Log) (x : ObjId) → Sound R → context_of R x ≡ None → HoldsNone R x
context-none R x sound none s h = never-both (context_of R x) s (holder-context_of R x s sound h) none

-- the thread that is found bound is bound
pub tied-bound : (R : Log) (n u : ObjId) → tied_to R n ≡ Some u → bound_of R u ≡ Some n
unfolding tied_to
tied-bound R n u h = is_just-some (bound_of R u) n (find-passes (λ t. is_just (bound_of R t) n) (threads R) u h)

-- none is found bound, so none is
pub tied-none : (R : Log) (n : ObjId) → Sound R → tied_to R n ≡ None → IsUnbound R n
unfolding tied_to
tied-none R n sound none t b =
    let f : IsThere R kind.Thread t × IsThere R kind.Notification n = bound-there R t n sound b in
    find-misses (λ t. is_just (bound_of R t) n) (threads R) t (made-in R t kind.Thread f.0.0 (alive-made R t f.0.1)) (ap (λ d. is_just d n) b ∙ same-self n) none

-- the context that is found homed is homed
pub homed_at-home : (R : Log) (n s : ObjId) → homed_at R n ≡ Some s → home_of R s ≡ Some n
unfolding homed_at
homed_at-home R n s h = is_just-some (home_of R s) n (find-passes (λ s. is_just (home_of R s) n) (contexts R) s h)

-- the one that is homed at n is found
pub home-homed_at : (R : Log) (n s : ObjId) → Sound R → home_of R s ≡ Some n → homed_at R n ≡ Some s
unfolding homed_at
home-homed_at R n s sound h =
    let there : IsThere R kind.Context s = (home-there R s n sound h).0 in
    find-alone (λ s. is_just (home_of R s) n) (contexts R) s (made-in R s kind.Context there.0 (alive-made R s there.1)) (ap (λ o. is_just o n) h ∙ same-self n)
    (λ z is. home-one R z s n sound (is_just-some (home_of R z) n is) h)

-- none is found homed, so none is
pub homed_at-none : (R : Log) (n : ObjId) → Sound R → homed_at R n ≡ None → IsNoHome R n
homed_at-none R n sound none s h = let no : None ≡ Some s = sym none ∙ home-homed_at R n s sound h in absurd cc

-- the context that a signal may lend is there
pub spare-there : (R : Log) (n s : ObjId) → Sound R → spare_at R n ≡ Some s → IsThere R kind.Context s
unfolding spare_at
spare-there R n s sound h = go (homed_at R n) refl h
  where
    spare : (c : ObjId) (b : Bool) → homed_at R n ≡ Some c → cond b (Some c) None ≡ Some s → IsThere R kind.Context s
    spare c true is k = let it : c ≡ s = cc in subst (λ (z : ObjId). IsThere R kind.Context z) it ((home-there R c n sound (homed_at-home R n c is)).0)
    spare c false is k = absurd cc

    go : (o : Option ObjId) → homed_at R n ≡ o → if_spare R o ≡ Some s → IsThere R kind.Context s
    go None is k = absurd cc
    go (Some c) is k = spare c (is_none (holder_of R c) && is_unlent R c) is k

-- the context whose chain is topped is there
pub topped-there : (R : Log) (r s : ObjId) → topped_by R r ≡ Some s → IsThere R kind.Context s
unfolding topped_by chain_of
topped-there R r s h =
    let made : (s.kind ≡ kind.Context) × (was_made R s ≡ true) = in-made R s kind.Context (find-in (λ s. is_just (head_of (cond (was_closed R s) [] (kept s [] R))) r) (contexts R) s h) in
    (made.0, both _ _ made.1 (go (was_closed R s) (find-passes (λ s. is_just (head_of (cond (was_closed R s) [] (kept s [] R))) r) (contexts R) s h)))
  where
    go : (b : Bool) → is_just (head_of (cond b [] (kept s [] R))) r ≡ true → not b ≡ true
    go true e = absurd cc
    go false e = refl

-- what is open after a record was open before
open-before : (a b c : Bool) → (a && not (b || c)) ≡ true → (a && not c) ≡ true
open-before true true c h = absurd cc
open-before true false c h = h
open-before false b c h = absurd cc

-- no later message of the sender of an open one was sent
pub none-later : (R : Log) (m n : ℕ) (s l : Letter) → Sound R → m < n → letter R m ≡ Some s → letter R n ≡ Some l → l.sender ≡ s.sender → is_open R m ≡ true → ⊥
none-later [] m n s l sound lt hs hl e o = absurd cc
none-later (rec.Sent x d mode badge message ∷ R) m n s l sound lt hs hl e o = go (next_message R == m) refl (next_message R == n) refl hs hl (parts _ _ o).0 (none-later R m n s l sound.1 lt)
  where
    new : Letter
    new = record { number = next_message R; sender = x; endpoint = d; mode = mode; badge = badge; message = message }

    unsettled : not (list_any (settles m) R) ≡ true
    unsettled = (parts (is_some (letter (rec.Sent x d mode badge message ∷ R) m)) _ o).1

    go : (b : Bool) → (next_message R == m) ≡ b → (c : Bool) → (next_message R == n) ≡ c → cond b (Some new) (letter R m) ≡ Some s → cond c (Some new) (letter R n) ≡ Some l → is_some (cond b (Some new) (letter R m)) ≡ true
        → (letter R m ≡ Some s → letter R n ≡ Some l → l.sender ≡ s.sender → is_open R m ≡ true → ⊥) → ⊥
    go true a true b hs hl i later = let f : next_message R ≡ m = eqb-true _ _ a in let g : next_message R ≡ n = eqb-true _ _ b in absurd (omega (arith, f, g, lt))
    go true a false b hs hl i later = let f : next_message R ≡ m = eqb-true _ _ a in let g : n < next_message R = letter-below R n (ap (λ z. is_some z) hl) in absurd (omega (arith, f, g, lt))
    go false a true b hs hl i later =
        let it : new ≡ l = cc in
        sound.0.3 s.endpoint m (record { sent = s; is_letter = hs; is_open = both _ _ i unsettled; of_sender = sym e ∙ ap (λ (z : Letter). z.sender) (sym it); on_endpoint = refl })
    go false a false b hs hl i later = later hs hl e (both _ _ i unsettled)
none-later (rec.Took k p ∷ R) m n s l sound lt hs hl e o = none-later R m n s l sound.1 lt hs hl e (open-before (is_some (letter R m)) (m == k) _ o)
none-later (rec.Dropped k ∷ R) m n s l sound lt hs hl e o = none-later R m n s l sound.1 lt hs hl e (open-before (is_some (letter R m)) (m == k) _ o)
none-later (_ ∷ R) m n s l sound lt hs hl e o = none-later R m n s l sound.1 lt hs hl e o
