-- What holds after each record of a sound log: of who is in a queue, of who is owed, of who holds a
-- context, of bindings, and of slots.
use Rattle.std.specs.Prelude.{ℕ, Bool, true, false, not, ◌&&◌, ◌||◌, ◌==◌, ◌≡◌, ◌≢◌, ◌⊎◌, [], ◌∷◌, Option, Some, None, refl, unwrap_or}
use Rattle.std.proofs.Common.{sym, ◌∙◌, ap, inl, inr, subst}
use Rattle.mcs_types.specs.declared.id.ObjId.{ObjId}
use Rattle.mcs_types.specs.declared.id.Kind.{Kind}
use Rattle.mcs_types.specs.declared.id.Kind.TheVariants as kind
use Rattle.mcs_types.specs.declared.cap.Cap.{Cap}
use Rattle.mcs_types.specs.declared.record.Queue.{Queue}
use Rattle.mcs_types.specs.declared.record.Queue.TheVariants.{Senders, Receivers, Waiters}
use Rattle.mcs_types.specs.declared.record.Rec.{Rec}
use Rattle.mcs_types.specs.declared.record.Rec.TheVariants as rec
use Rattle.mcs_types.specs.Ids.{same}
use Rattle.mcs_book.specs.Logs.{Log, given}
use Rattle.mcs_book.specs.Objects.{closes, makes, was_made, was_closed, is_alive}
use Rattle.mcs_book.specs.Slots.{slot}
use Rattle.mcs_book.specs.Queues.{queue_of, reply_with}
use Rattle.mcs_book.specs.Contexts.{holder_of, home_of}
use Rattle.mcs_book.specs.Replies.{owed_by}
use Rattle.mcs_book.specs.Notifications.{bound_of}
use Rattle.mcs_book.specs.Sound.{Allowed, Sound, IsThere, IsLineThere, IsReleased, IsUnattended, IsIdle}
use Rattle.mcs_types.proofs.Ids.{same-self, same-equal, same-other, parts, both}
use Rattle.mcs_book.proofs.Queues.NoneBeside.{made-more}
use Rattle.mcs_book.proofs.Threads.UserLaws.{if_some}

-- a value that is given, or the one before
pub given-split : {A : Type 0} (b : Bool) (v o w : A) → unwrap_or (given b v) o ≡ w → ((b ≡ true) × (v ≡ w)) ⊎ ((b ≡ false) × (o ≡ w))
given-split true v o w h = inl (refl, h)
given-split false v o w h = inr (refl, h)

-- what is said of one object, or was said before
pub set-split : {A : Type 0} (x y : ObjId) (v o w : A) → unwrap_or (given (same x y) v) o ≡ w → ((x ≡ y) × (v ≡ w)) ⊎ ((same x y ≡ false) × (o ≡ w))
set-split x y v o w h = elim (given-split (same x y) v o w h) [ inl (e, is) ↦ inl (same-equal x y e, is) | inr (e, is) ↦ inr (e, is) ]

-- what is said of another object changes nothing
pub set-other : {A : Type 0} (x y : ObjId) (v o : A) → x ≢ y → unwrap_or (given (same x y) v) o ≡ o
set-other x y v o ne = ap (λ b. unwrap_or (given b v) o) (same-other x y ne)

-- what is said of the object itself
pub set-self : {A : Type 0} (x : ObjId) (v o : A) → unwrap_or (given (same x x) v) o ≡ v
set-self x v o = ap (λ b. unwrap_or (given b v) o) (same-self x)

-- what is said anew as it was
pub set-kept : {A : Type 0} (b : Bool) (v o : A) → o ≡ v → unwrap_or (given b v) o ≡ v
set-kept true v o h = refl
set-kept false v o h = h

-- an object is not another than itself
pub same-never : (x y : ObjId) → x ≡ y → same x y ≡ false → ⊥
same-never x y e f = let no : true ≡ false = sym (same-self x) ∙ ap (λ (z : ObjId). same x z) e ∙ f in absurd cc

-- some is not none
pub never-both : {A : Type 0} (o : Option A) (x : A) → o ≡ Some x → o ≡ None → ⊥
never-both o x h k = let no : None ≡ Some x = sym k ∙ h in absurd cc

-- who is there stays there, unless the record closes it
pub alive-next : (R : Log) (r : Rec) (o : ObjId) → is_alive R o ≡ true → closes o r ≡ false → is_alive (r ∷ R) o ≡ true
alive-next R r o h e =
    let p : (was_made R o ≡ true) × (not (was_closed R o) ≡ true) = parts _ _ h in
    both _ _ (made-more (makes o r) (was_made R o) p.0) (ap (λ b. not (b || was_closed R o)) e ∙ p.1)

-- the same with its kind
pub there-next : (R : Log) (r : Rec) (k : Kind) (o : ObjId) → IsThere R k o → closes o r ≡ false → IsThere (r ∷ R) k o
there-next R r k o h e = (h.0, alive-next R r o h.1 e)

-- an object that is closed is one with which no thread is left
released-as : (R : Log) (o x : ObjId) (k : Kind) → Allowed R (rec.Closed o) → x.kind ≡ k → x ≡ o → IsReleased R k x
released-as R o x k h e is = subst (λ (j : Kind). IsReleased R j x) e (subst (λ (z : ObjId). IsReleased R z.kind z) (sym is) h.1)

-- who is there stays there, where not all are done with it
pub there-closed : (R : Log) (o x : ObjId) (k : Kind) → Allowed R (rec.Closed o) → IsThere R k x → (IsReleased R k x → ⊥) → IsThere (rec.Closed o ∷ R) k x
there-closed R o x k h there busy = there-next R (rec.Closed o) k x there (same-other x o (λ e. busy (released-as R o x k h there.0 e)))

-- who is in a queue is a thread, and there
pub standing-thread : (R : Log) (x : ObjId) (q : Queue) → Sound R → queue_of R x ≡ Some q → IsThere R kind.Thread x
standing-thread [] x q sound h = absurd cc
standing-thread (rec.Joins u k reply ∷ R) x q sound h = elim (set-split x u (Some k) (queue_of R x) (Some q) h) [ inl (who, is) ↦ subst (λ (z : ObjId). IsThere R kind.Thread z) (sym who) sound.0.0 | inr (other, is) ↦ standing-thread R x q sound.1 is ]
standing-thread (rec.Parts u k ∷ R) x q sound h = elim (set-split x u None (queue_of R x) (Some q) h) [ inl (who, is) ↦ absurd cc | inr (other, is) ↦ standing-thread R x q sound.1 is ]
standing-thread (rec.Closed o ∷ R) x q sound h = there-closed R o x kind.Thread sound.0 (standing-thread R x q sound.1 h) (λ r. never-both (queue_of R x) q h r.0.0)
standing-thread (r ∷ R) x q sound h = there-next R r kind.Thread x (standing-thread R x q sound.1 h) refl

-- a line that is there stays there, unless the record closes it
line-next : (R : Log) (r : Rec) (q : Queue) → IsLineThere R q → ((o : ObjId) → closes o r ≡ false) → IsLineThere (r ∷ R) q
line-next R r (Senders e) h f = there-next R r kind.Endpoint e h (f e)
line-next R r (Receivers e) h f = there-next R r kind.Endpoint e h (f e)
line-next R r (Waiters n) h f = there-next R r kind.Notification n h (f n)

-- the object of a queue is there where somebody is in the queue
pub line-there : (R : Log) (x : ObjId) (q : Queue) → Sound R → queue_of R x ≡ Some q → IsLineThere R q
line-there [] x q sound h = absurd cc
line-there (rec.Joins u k reply ∷ R) x q sound h = line-next R (rec.Joins u k reply) q (elim (set-split x u (Some k) (queue_of R x) (Some q) h) [ inl (who, is) ↦ (let it : k ≡ q = cc in subst (λ (z : Queue). IsLineThere R z) it sound.0.3) | inr (other, is) ↦ line-there R x q sound.1 is ]) (λ o. refl)
line-there (rec.Parts u k ∷ R) x q sound h = line-next R (rec.Parts u k) q (elim (set-split x u None (queue_of R x) (Some q) h) [ inl (who, is) ↦ absurd cc | inr (other, is) ↦ line-there R x q sound.1 is ]) (λ o. refl)
line-there (rec.Closed o ∷ R) x (Senders e) sound h = there-closed R o e kind.Endpoint sound.0 (line-there R x (Senders e) sound.1 h) (λ r. r.0 x h)
line-there (rec.Closed o ∷ R) x (Receivers e) sound h = there-closed R o e kind.Endpoint sound.0 (line-there R x (Receivers e) sound.1 h) (λ r. r.1 x h)
line-there (rec.Closed o ∷ R) x (Waiters n) sound h = there-closed R o n kind.Notification sound.0 (line-there R x (Waiters n) sound.1 h) (λ r. r.0 x h)
line-there (r ∷ R) x q sound h = line-next R r q (line-there R x q sound.1 h) (λ o. refl)

-- who is in a queue is owed nothing
pub standing-owed : (R : Log) (x : ObjId) (q : Queue) (r : ObjId) → Sound R → queue_of R x ≡ Some q → owed_by R r ≢ Some x
standing-owed [] x q r sound h o = absurd cc
standing-owed (rec.Joins u k reply ∷ R) x q r sound h o = elim (set-split x u (Some k) (queue_of R x) (Some q) h) [ inl (who, is) ↦ sound.0.1.1 r (o ∙ ap (λ z. Some z) who) | inr (other, is) ↦ standing-owed R x q r sound.1 is o ]
standing-owed (rec.Parts u k ∷ R) x q r sound h o = elim (set-split x u None (queue_of R x) (Some q) h) [ inl (who, is) ↦ absurd cc | inr (other, is) ↦ standing-owed R x q r sound.1 is o ]
standing-owed (rec.Owes r' y s ∷ R) x q r sound h o = elim (set-split r r' (Some y) (owed_by R r) (Some x) o) [
  | inl (who, is) ↦ (let it : y ≡ x = cc in never-both (queue_of R x) q h (ap (λ z. queue_of R z) (sym it) ∙ sound.0.3.0))
  | inr (other, is) ↦ standing-owed R x q r sound.1 h is
]
standing-owed (rec.Paid r' y m ∷ R) x q r sound h o = elim (set-split r r' None (owed_by R r) (Some x) o) [ inl (who, is) ↦ absurd cc | inr (other, is) ↦ standing-owed R x q r sound.1 h is ]
standing-owed (rec.Void r' y m ∷ R) x q r sound h o = elim (set-split r r' None (owed_by R r) (Some x) o) [ inl (who, is) ↦ absurd cc | inr (other, is) ↦ standing-owed R x q r sound.1 h is ]
standing-owed (_ ∷ R) x q r sound h o = standing-owed R x q r sound.1 h o

-- the reply object of one who receives is there, and owes no thread
pub reply-there : (R : Log) (x e r : ObjId) → Sound R → queue_of R x ≡ Some (Receivers e) → reply_with R x ≡ Some r → IsThere R kind.Reply r × (owed_by R r ≡ None)
reply-there [] x e r sound h w = absurd cc
reply-there (rec.Joins u k reply ∷ R) x e r sound h w = elim (set-split x u (Some k) (queue_of R x) (Some (Receivers e)) h) [
  | inl (who, is) ↦ elim (set-split x u reply (reply_with R x) (Some r) w) [
    | inl (who', is') ↦ (let f = if_some _ reply r sound.0.4 is' in (f.0, f.1.0))
    | inr (other, is') ↦ absurd (same-never x u who other)
  ]
  | inr (other, is) ↦ elim (set-split x u reply (reply_with R x) (Some r) w) [
    | inl (who, is') ↦ absurd (same-never x u who other)
    | inr (other', is') ↦ reply-there R x e r sound.1 is is'
  ]
]
reply-there (rec.Parts u k ∷ R) x e r sound h w = elim (set-split x u None (queue_of R x) (Some (Receivers e)) h) [ inl (who, is) ↦ absurd cc | inr (other, is) ↦ reply-there R x e r sound.1 is w ]
reply-there (rec.Closed o ∷ R) x e r sound h w =
    let f : IsThere R kind.Reply r × (owed_by R r ≡ None) = reply-there R x e r sound.1 h w in
    (there-closed R o r kind.Reply sound.0 f.0 (λ free. free.1 x e h w), f.1)
reply-there (rec.Owes r' y s ∷ R) x e r sound h w =
    let f : IsThere R kind.Reply r × (owed_by R r ≡ None) = reply-there R x e r sound.1 h w in
    (f.0, set-other r r' (Some y) (owed_by R r) (λ is. sound.0.1.1 x e h (w ∙ ap (λ z. Some z) is)) ∙ f.1)
reply-there (rec.Paid r' y m ∷ R) x e r sound h w = let f : IsThere R kind.Reply r × (owed_by R r ≡ None) = reply-there R x e r sound.1 h w in (f.0, set-kept (same r r') None (owed_by R r) f.1)
reply-there (rec.Void r' y m ∷ R) x e r sound h w = let f : IsThere R kind.Reply r × (owed_by R r ≡ None) = reply-there R x e r sound.1 h w in (f.0, set-kept (same r r') None (owed_by R r) f.1)
reply-there (c ∷ R) x e r sound h w = let f : IsThere R kind.Reply r × (owed_by R r ≡ None) = reply-there R x e r sound.1 h w in (there-next R c kind.Reply r f.0 refl, f.1)

-- a reply object that owes is there, and so is the thread that it owes
pub owed-there : (R : Log) (r x : ObjId) → Sound R → owed_by R r ≡ Some x → IsThere R kind.Reply r × IsThere R kind.Thread x
owed-there [] r x sound o = absurd cc
owed-there (rec.Owes r' y s ∷ R) r x sound o = elim (set-split r r' (Some y) (owed_by R r) (Some x) o) [
  | inl (who, is) ↦ (let it : y ≡ x = cc in (subst (λ (z : ObjId). IsThere R kind.Reply z) (sym who) sound.0.0, subst (λ (z : ObjId). IsThere R kind.Thread z) it sound.0.2))
  | inr (other, is) ↦ owed-there R r x sound.1 is
]
owed-there (rec.Paid r' y m ∷ R) r x sound o = elim (set-split r r' None (owed_by R r) (Some x) o) [ inl (who, is) ↦ absurd cc | inr (other, is) ↦ owed-there R r x sound.1 is ]
owed-there (rec.Void r' y m ∷ R) r x sound o = elim (set-split r r' None (owed_by R r) (Some x) o) [ inl (who, is) ↦ absurd cc | inr (other, is) ↦ owed-there R r x sound.1 is ]
owed-there (rec.Closed c ∷ R) r x sound o =
    let f : IsThere R kind.Reply r × IsThere R kind.Thread x = owed-there R r x sound.1 o in
    (there-closed R c r kind.Reply sound.0 f.0 (λ free. never-both (owed_by R r) x o free.0), there-closed R c x kind.Thread sound.0 f.1 (λ done. done.0.1 r o))
owed-there (c ∷ R) r x sound o = let f : IsThere R kind.Reply r × IsThere R kind.Thread x = owed-there R r x sound.1 o in (there-next R c kind.Reply r f.0 refl, there-next R c kind.Thread x f.1 refl)

-- one reply object at most owes a thread
pub owed-one : (R : Log) (r q x : ObjId) → Sound R → owed_by R r ≡ Some x → owed_by R q ≡ Some x → r ≡ q
owed-one [] r q x sound o p = absurd cc
owed-one (rec.Owes d y s ∷ R) r q x sound o p = elim (set-split r d (Some y) (owed_by R r) (Some x) o) [
  | inl (who, is) ↦ elim (set-split q d (Some y) (owed_by R q) (Some x) p) [
    | inl (who', is') ↦ who ∙ sym who'
    | inr (other, is') ↦ absurd (sound.0.3.1 q (is' ∙ sym is))
  ]
  | inr (other, is) ↦ elim (set-split q d (Some y) (owed_by R q) (Some x) p) [
    | inl (who', is') ↦ absurd (sound.0.3.1 r (is ∙ sym is'))
    | inr (other', is') ↦ owed-one R r q x sound.1 is is'
  ]
]
owed-one (rec.Paid d y m ∷ R) r q x sound o p = elim (set-split r d None (owed_by R r) (Some x) o) [
  | inl (who, is) ↦ absurd cc
  | inr (other, is) ↦ elim (set-split q d None (owed_by R q) (Some x) p) [ inl (who', is') ↦ absurd cc | inr (other', is') ↦ owed-one R r q x sound.1 is is' ]
]
owed-one (rec.Void d y m ∷ R) r q x sound o p = elim (set-split r d None (owed_by R r) (Some x) o) [
  | inl (who, is) ↦ absurd cc
  | inr (other, is) ↦ elim (set-split q d None (owed_by R q) (Some x) p) [ inl (who', is') ↦ absurd cc | inr (other', is') ↦ owed-one R r q x sound.1 is is' ]
]
owed-one (_ ∷ R) r q x sound o p = owed-one R r q x sound.1 o p

-- who is owed is in no queue
pub owed-stands_none : (R : Log) (r x : ObjId) → Sound R → owed_by R r ≡ Some x → queue_of R x ≡ None
owed-stands_none R r x sound o = go (queue_of R x) refl
  where
    go : (q : Option Queue) → queue_of R x ≡ q → q ≡ None
    go None is = refl
    go (Some q) is = absurd (standing-owed R x q r sound is o)

-- once the debt of r to x has ended, x is idle
pub ended-idle : (R : Log) (r x : ObjId) (e : Rec) → Sound R → owed_by R r ≡ Some x → ((d : ObjId) → owed_by (e ∷ R) d ≡ unwrap_or (given (same d r) None) (owed_by R d)) → queue_of (e ∷ R) x ≡ queue_of R x → IsIdle (e ∷ R) x
ended-idle R r x e sound owed owes queues =
    (queues ∙ owed-stands_none R r x sound owed, λ d o. elim (set-split d r None (owed_by R d) (Some x) (sym (owes d) ∙ o)) [ inl (who, is) ↦ absurd cc | inr (other, is) ↦ same-never d r (owed-one R d r x sound is owed) other ])

-- no thread receives with a reply object that owes
pub owed-unattended : (R : Log) (r x : ObjId) → Sound R → owed_by R r ≡ Some x → IsUnattended R r
owed-unattended R r x sound o y e at with = never-both (owed_by R r) x o ((reply-there R y e r sound at with).1)

-- a context that is held is there, and so is its holder
pub held-there : (R : Log) (s t : ObjId) → Sound R → holder_of R s ≡ Some t → IsThere R kind.Context s × IsThere R kind.Thread t
held-there [] s t sound h = absurd cc
held-there (rec.Holds c None ∷ R) s t sound h = elim (set-split s c None (holder_of R s) (Some t) h) [ inl (who, is) ↦ absurd cc | inr (other, is) ↦ held-there R s t sound.1 is ]
held-there (rec.Holds c (Some u) ∷ R) s t sound h = elim (set-split s c (Some u) (holder_of R s) (Some t) h) [
  | inl (who, is) ↦ (let it : u ≡ t = cc in (subst (λ (z : ObjId). IsThere R kind.Context z) (sym who) sound.0.0, subst (λ (z : ObjId). IsThere R kind.Thread z) it sound.0.1))
  | inr (other, is) ↦ held-there R s t sound.1 is
]
held-there (rec.Closed o ∷ R) s t sound h =
    let f : IsThere R kind.Context s × IsThere R kind.Thread t = held-there R s t sound.1 h in
    (there-closed R o s kind.Context sound.0 f.0 (λ none. never-both (holder_of R s) t h none.0), there-closed R o t kind.Thread sound.0 f.1 (λ done. done.1 s h))
held-there (c ∷ R) s t sound h = let f : IsThere R kind.Context s × IsThere R kind.Thread t = held-there R s t sound.1 h in (there-next R c kind.Context s f.0 refl, there-next R c kind.Thread t f.1 refl)

-- a thread that is bound is there, and so is its notification
pub bound-there : (R : Log) (t n : ObjId) → Sound R → bound_of R t ≡ Some n → IsThere R kind.Thread t × IsThere R kind.Notification n
bound-there [] t n sound h = absurd cc
bound-there (rec.Tied u None ∷ R) t n sound h = elim (set-split t u None (bound_of R t) (Some n) h) [ inl (who, is) ↦ absurd cc | inr (other, is) ↦ bound-there R t n sound.1 is ]
bound-there (rec.Tied u (Some m) ∷ R) t n sound h = elim (set-split t u (Some m) (bound_of R t) (Some n) h) [
  | inl (who, is) ↦ (let it : m ≡ n = cc in (subst (λ (z : ObjId). IsThere R kind.Thread z) (sym who) sound.0.0, subst (λ (z : ObjId). IsThere R kind.Notification z) it sound.0.1))
  | inr (other, is) ↦ bound-there R t n sound.1 is
]
bound-there (rec.Closed o ∷ R) t n sound h =
    let f : IsThere R kind.Thread t × IsThere R kind.Notification n = bound-there R t n sound.1 h in
    (there-closed R o t kind.Thread sound.0 f.0 (λ done. never-both (bound_of R t) n h done.2), there-closed R o n kind.Notification sound.0 f.1 (λ free. free.1 t h))
bound-there (c ∷ R) t n sound h = let f : IsThere R kind.Thread t × IsThere R kind.Notification n = bound-there R t n sound.1 h in (there-next R c kind.Thread t f.0 refl, there-next R c kind.Notification n f.1 refl)

-- one thread at most is bound to a notification
pub bound-one : (R : Log) (t u n : ObjId) → Sound R → bound_of R t ≡ Some n → bound_of R u ≡ Some n → t ≡ u
bound-one [] t u n sound h k = absurd cc
bound-one (rec.Tied v None ∷ R) t u n sound h k = elim (set-split t v None (bound_of R t) (Some n) h) [
  | inl (who, is) ↦ absurd cc
  | inr (other, is) ↦ elim (set-split u v None (bound_of R u) (Some n) k) [ inl (who', is') ↦ absurd cc | inr (other', is') ↦ bound-one R t u n sound.1 is is' ]
]
bound-one (rec.Tied v (Some m) ∷ R) t u n sound h k = elim (set-split t v (Some m) (bound_of R t) (Some n) h) [
  | inl (who, is) ↦ elim (set-split u v (Some m) (bound_of R u) (Some n) k) [
    | inl (who', is') ↦ who ∙ sym who'
    | inr (other, is') ↦ absurd (sound.0.3 u (is' ∙ sym is))
  ]
  | inr (other, is) ↦ elim (set-split u v (Some m) (bound_of R u) (Some n) k) [
    | inl (who', is') ↦ absurd (sound.0.3 t (is ∙ sym is'))
    | inr (other', is') ↦ bound-one R t u n sound.1 is is'
  ]
]
bound-one (_ ∷ R) t u n sound h k = bound-one R t u n sound.1 h k

-- a context that is homed is there, and so is its home
pub home-there : (R : Log) (s n : ObjId) → Sound R → home_of R s ≡ Some n → IsThere R kind.Context s × IsThere R kind.Notification n
home-there [] s n sound h = absurd cc
home-there (rec.Homed c None ∷ R) s n sound h = elim (set-split s c None (home_of R s) (Some n) h) [ inl (who, is) ↦ absurd cc | inr (other, is) ↦ home-there R s n sound.1 is ]
home-there (rec.Homed c (Some m) ∷ R) s n sound h = elim (set-split s c (Some m) (home_of R s) (Some n) h) [
  | inl (who, is) ↦ (let it : m ≡ n = cc in (subst (λ (z : ObjId). IsThere R kind.Context z) (sym who) sound.0.0, subst (λ (z : ObjId). IsThere R kind.Notification z) it sound.0.1))
  | inr (other, is) ↦ home-there R s n sound.1 is
]
home-there (rec.Closed o ∷ R) s n sound h =
    let f : IsThere R kind.Context s × IsThere R kind.Notification n = home-there R s n sound.1 h in
    (there-closed R o s kind.Context sound.0 f.0 (λ none. never-both (home_of R s) n h none.1), there-closed R o n kind.Notification sound.0 f.1 (λ free. free.2 s h))
home-there (c ∷ R) s n sound h = let f : IsThere R kind.Context s × IsThere R kind.Notification n = home-there R s n sound.1 h in (there-next R c kind.Context s f.0 refl, there-next R c kind.Notification n f.1 refl)

-- one context at most is homed at a notification
pub home-one : (R : Log) (s c n : ObjId) → Sound R → home_of R s ≡ Some n → home_of R c ≡ Some n → s ≡ c
home-one [] s c n sound h k = absurd cc
home-one (rec.Homed v None ∷ R) s c n sound h k = elim (set-split s v None (home_of R s) (Some n) h) [
  | inl (who, is) ↦ absurd cc
  | inr (other, is) ↦ elim (set-split c v None (home_of R c) (Some n) k) [ inl (who', is') ↦ absurd cc | inr (other', is') ↦ home-one R s c n sound.1 is is' ]
]
home-one (rec.Homed v (Some m) ∷ R) s c n sound h k = elim (set-split s v (Some m) (home_of R s) (Some n) h) [
  | inl (who, is) ↦ elim (set-split c v (Some m) (home_of R c) (Some n) k) [
    | inl (who', is') ↦ who ∙ sym who'
    | inr (other', is') ↦ absurd (sound.0.3 c (is' ∙ sym is))
  ]
  | inr (other, is) ↦ elim (set-split c v (Some m) (home_of R c) (Some n) k) [
    | inl (who', is') ↦ absurd (sound.0.3 s (is ∙ sym is'))
    | inr (other', is') ↦ home-one R s c n sound.1 is is'
  ]
]
home-one (_ ∷ R) s c n sound h k = home-one R s c n sound.1 h k

-- a slot holds a capability to an object that is there
pub slot-alive : (R : Log) (c : ObjId) (i : ℕ) (cap : Cap) → Sound R → slot R c i ≡ Some cap → is_alive R cap.obj ≡ true
slot-alive [] c i cap sound h = absurd cc
slot-alive (rec.Slot d j held ∷ R) c i cap sound h = elim (given-split (same c d && (i == j)) held (slot R c i) (Some cap) h) [ inl (at, is) ↦ if_some _ held cap sound.0.2 is | inr (other, is) ↦ slot-alive R c i cap sound.1 is ]
slot-alive (rec.Closed o ∷ R) c i cap sound h = alive-next R (rec.Closed o) cap.obj (slot-alive R c i cap sound.1 h) (rw h at (sound.0.2 c i))
slot-alive (r ∷ R) c i cap sound h = alive-next R r cap.obj (slot-alive R c i cap sound.1 h) refl
