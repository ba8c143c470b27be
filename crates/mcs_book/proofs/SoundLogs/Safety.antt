-- What must hold before a record so that whoever is in a queue or is owed an answer is there, and
-- what follows of a log of such records.
use Rattle.std.specs.Prelude.{ℕ, ◌≤◌, ◌==◌, Bool, true, false, cond, not, ◌&&◌, ◌||◌, ◌≡◌, ◌≢◌, List, [], ◌∷◌, Some, None, refl, find, unwrap_or}
use Rattle.std.proofs.Common.{sym, ◌∙◌, ap, inl, inr, subst}
use Rattle.mcs_types.specs.declared.id.ObjId.{ObjId}
use Rattle.mcs_types.specs.declared.id.Kind.TheVariants as kind
use Rattle.mcs_types.specs.declared.cap.Cap.{Cap}
use Rattle.mcs_types.specs.declared.record.Queue.{Queue}
use Rattle.mcs_types.specs.declared.record.Rec.{Rec}
use Rattle.mcs_types.specs.declared.record.Rec.TheVariants as rec
use Rattle.mcs_types.specs.Ids.{same}
use Rattle.mcs_book.specs.Logs.{Log, onto, given}
use Rattle.mcs_types.specs.Ids.{is_just}
use Rattle.mcs_book.specs.Objects.{was_made, was_closed, is_alive}
use Rattle.mcs_book.specs.Slots.{slot}
use Rattle.mcs_book.specs.Threads.{root_kept}
use Rattle.mcs_book.specs.Queues.{queue_of, reply_with}
use Rattle.mcs_book.specs.Replies.{replies, owed_by, owing}
use Rattle.mcs_book.specs.Lookup.{radix_kept}
use Rattle.mcs_book.specs.Each.{Each, EachOf}
use Rattle.mcs_book.specs.Sound.{IsOwedNothing}
use Rattle.mcs_types.proofs.Ids.{same-self, same-equal, same-other, parts, both}
use Rattle.mcs_book.proofs.Objects.Same.{is_just-some}
use Rattle.mcs_book.proofs.Queues.Sorted.{In}
use Rattle.mcs_book.proofs.Objects.MadeLaws.{made-in}
use Rattle.mcs_book.proofs.Messages.MessageLaws.{find-passes}
use Rattle.mcs_book.proofs.Queues.NoneBeside.{left-queue, made-more}
use Rattle.mcs_book.proofs.SoundLogs.Making.{Passes, is_plain}

-- a reply object that was made
abbrev pub IsReplyMade : Log → ObjId → Type 0
IsReplyMade R r = (r.kind ≡ kind.Reply) × (was_made R r ≡ true)

-- who joins a queue is a thread that is there and is owed nothing, with a reply object that was
-- made; who comes to be owed is one that is in no queue and is owed nothing; a thread that is
-- closed is in no queue and is owed nothing; a slot holds a capability to what was made, a CNode's
-- index has some bits, and a thread's root is a CNode that was made
abbrev pub Safe : Log → Rec → Type 0
Safe R (rec.Joins t q reply) = (t.kind ≡ kind.Thread) × (is_alive R t ≡ true) × IsOwedNothing R t × ((r : ObjId) → reply ≡ Some r → IsReplyMade R r)
Safe R (rec.Owes r x c) = IsReplyMade R r × (x.kind ≡ kind.Thread) × (is_alive R x ≡ true) × (queue_of R x ≡ None) × IsOwedNothing R x
Safe R (rec.Closed o) = o.kind ≡ kind.Thread → (queue_of R o ≡ None) × IsOwedNothing R o
Safe R (rec.Slot c i held) = (k : Cap) → held ≡ Some k → was_made R k.obj ≡ true
Safe R (rec.Made o form) = (o.kind ≡ kind.CNode → 1 ≤ radix_kept (Some form)) × ((root : Cap) → root_kept form ≡ Some root → (root.obj.kind ≡ kind.CNode) × (was_made R root.obj ≡ true))
Safe R _ = Unit {0}

-- a plain record is safe
pub plain-safe : (R : Log) (r : Rec) → is_plain r ≡ true → Safe R r
plain-safe R (rec.Joins t q reply) h = absurd cc
plain-safe R (rec.Owes r x c) h = absurd cc
plain-safe R (rec.Closed o) h = absurd cc
plain-safe R (rec.Slot c i held) h = absurd cc
plain-safe R (rec.Made o form) h = absurd cc
plain-safe R _ h = tt

-- a plain record lets no thread join a queue
pub none-plain : (R : Log) (x : ObjId) (r : Rec) → is_plain r ≡ true → queue_of R x ≡ None → queue_of (r ∷ R) x ≡ None
none-plain R x (rec.Joins t q reply) h k = absurd cc
none-plain R x (rec.Parts t q) h k = go (same x t)
  where
    go : (b : Bool) → unwrap_or (given b None) (queue_of R x) ≡ None
    go true = refl
    go false = k
none-plain R x _ h k = k

-- nor do several
pub none-plains : (R : Log) (x : ObjId) (made : List Rec) → Passes is_plain made → queue_of R x ≡ None → queue_of (onto made R) x ≡ None
none-plains R x [] h k = k
none-plains R x (r ∷ made) h k = none-plains (r ∷ R) x made h.1 (none-plain R x r h.0 k)

-- who leaves a queue is in none
pub parted-none : (R : Log) (x : ObjId) (q : Queue) → queue_of (rec.Parts x q ∷ R) x ≡ None
parted-none R x q = go (same x x) (same-self x)
  where
    go : (b : Bool) → b ≡ true → unwrap_or (given b None) (queue_of R x) ≡ None
    go true e = refl
    go false e = absurd cc

-- an answer paid or void leaves no thread owed more
pub paid-owed : (R : Log) (x r s : ObjId) → IsOwedNothing R x → unwrap_or (given (same s r) None) (owed_by R s) ≢ Some x
paid-owed R x r s h = go (same s r)
  where
    go : (b : Bool) → unwrap_or (given b None) (owed_by R s) ≢ Some x
    go true e = absurd cc
    go false e = h s e

-- a plain record lets no thread come to be owed
pub owed-plain : (R : Log) (x : ObjId) (r : Rec) → is_plain r ≡ true → IsOwedNothing R x → IsOwedNothing (r ∷ R) x
owed-plain R x (rec.Owes r y c) e h s = absurd cc
owed-plain R x (rec.Paid r y message) e h s = absurd cc
owed-plain R x (rec.Void r y ending) e h s = paid-owed R x r s h
owed-plain R x _ e h s = h s

-- nor do several
pub owed-plains : (R : Log) (x : ObjId) (made : List Rec) → Passes is_plain made → IsOwedNothing R x → IsOwedNothing (onto made R) x
owed-plains R x [] h k = k
owed-plains R x (r ∷ made) h k = owed-plains (r ∷ R) x made h.1 (owed-plain R x r h.0 k)

-- who is there is so after another object is closed
alive-closed : (R : Log) (x o : ObjId) → x ≢ o → is_alive R x ≡ true → is_alive (rec.Closed o ∷ R) x ≡ true
alive-closed R x o ne h = ap (λ b. was_made R x && not (b || was_closed R x)) (same-other x o ne) ∙ h

-- who is there is so after an object is made
alive-more : (R : Log) (x : ObjId) (b : Bool) → is_alive R x ≡ true → ((b || was_made R x) && not (was_closed R x)) ≡ true
alive-more R x b h = let p : (was_made R x ≡ true) × (not (was_closed R x) ≡ true) = parts _ _ h in both _ _ (made-more b _ p.0) p.1

-- a thread that is there, and is owed nothing
pub record IsStanding (R : Log) (x : ObjId) : Type 0 where
  pub thread : x.kind ≡ kind.Thread
  pub alive : is_alive R x ≡ true
  pub owed_nothing : IsOwedNothing R x

-- a debt of another
other-debt : (R : Log) (x r y s : ObjId) → x ≢ y → IsOwedNothing R x → unwrap_or (given (same s r) (Some y)) (owed_by R s) ≢ Some x
other-debt R x r y s ne h = go (same s r)
  where
    go : (b : Bool) → unwrap_or (given b (Some y)) (owed_by R s) ≢ Some x
    go true e = let it : y ≡ x = cc in ne (sym it)
    go false e = h s e

-- who is in a queue is a thread that is there, and is owed nothing
pub safe-standing : (R : Log) (x : ObjId) (q : Queue) → Each Safe R → queue_of R x ≡ Some q → IsStanding R x
safe-standing [] x q h at = absurd cc
safe-standing (rec.Joins t k reply ∷ R) x q h at = go (same x t) refl at (safe-standing R x q h.1)
  where
    go : (b : Bool) → same x t ≡ b → unwrap_or (given b (Some k)) (queue_of R x) ≡ Some q → (queue_of R x ≡ Some q → IsStanding R x) → IsStanding (rec.Joins t k reply ∷ R) x
    go true e stands later = subst (λ (z : ObjId). IsStanding (rec.Joins t k reply ∷ R) z) (sym (same-equal x t e)) (record { thread = h.0.0; alive = h.0.1; owed_nothing = h.0.2 })
    go false e stands later = let i : IsStanding R x = later stands in record { thread = i.thread; alive = i.alive; owed_nothing = i.owed_nothing }
safe-standing (rec.Parts t k ∷ R) x q h at = let i : IsStanding R x = safe-standing R x q h.1 ((left-queue R t x k q at).1) in record { thread = i.thread; alive = i.alive; owed_nothing = i.owed_nothing }
safe-standing (rec.Owes r y c ∷ R) x q h at =
    let i : IsStanding R x = safe-standing R x q h.1 at in
    let other : x ≢ y = λ e. let clash : None ≡ Some q = sym h.0.3 ∙ ap (λ z. queue_of R z) (sym e) ∙ at in absurd cc in
    record { thread = i.thread; alive = i.alive; owed_nothing = λ s. other-debt R x r y s other i.owed_nothing }
safe-standing (rec.Paid r y message ∷ R) x q h at = let i : IsStanding R x = safe-standing R x q h.1 at in record { thread = i.thread; alive = i.alive; owed_nothing = λ s. paid-owed R x r s i.owed_nothing }
safe-standing (rec.Void r y ending ∷ R) x q h at = let i : IsStanding R x = safe-standing R x q h.1 at in record { thread = i.thread; alive = i.alive; owed_nothing = λ s. paid-owed R x r s i.owed_nothing }
safe-standing (rec.Closed o ∷ R) x q h at =
    let i : IsStanding R x = safe-standing R x q h.1 at in
    let other : x ≢ o = λ e. let clash : None ≡ Some q = sym (h.0 (ap (λ (z : ObjId). z.kind) (sym e) ∙ i.thread)).0 ∙ ap (λ z. queue_of R z) (sym e) ∙ at in absurd cc in
    record { thread = i.thread; alive = alive-closed R x o other i.alive; owed_nothing = i.owed_nothing }
safe-standing (rec.Made o form ∷ R) x q h at = let i : IsStanding R x = safe-standing R x q h.1 at in record { thread = i.thread; alive = alive-more R x (same x o) i.alive; owed_nothing = i.owed_nothing }
safe-standing (_ ∷ R) x q h at = let i : IsStanding R x = safe-standing R x q h.1 at in record { thread = i.thread; alive = i.alive; owed_nothing = i.owed_nothing }

-- the reply object with which a thread last joined a queue was made
pub safe-named : (R : Log) (x r : ObjId) → Each Safe R → reply_with R x ≡ Some r → IsReplyMade R r
safe-named [] x r h is = absurd cc
safe-named (rec.Joins t q reply ∷ R) x r h is = go (same x t) is (safe-named R x r h.1)
  where
    go : (b : Bool) → unwrap_or (given b reply) (reply_with R x) ≡ Some r → (reply_with R x ≡ Some r → IsReplyMade R r) → IsReplyMade R r
    go true e later = h.0.3 r e
    go false e later = later e
safe-named (rec.Made o form ∷ R) x r h is = let p : IsReplyMade R r = safe-named R x r h.1 is in (p.0, made-more (same r o) _ p.1)
safe-named (_ ∷ R) x r h is = safe-named R x r h.1 is

-- who is owed an answer is a thread that is there, and the reply object was made
pub record IsOwed (R : Log) (r x : ObjId) : Type 0 where
  pub thread : x.kind ≡ kind.Thread
  pub alive : is_alive R x ≡ true
  pub made : IsReplyMade R r

-- who is owed
pub safe-owed : (R : Log) (r x : ObjId) → Each Safe R → owed_by R r ≡ Some x → IsOwed R r x
safe-owed [] r x h is = absurd cc
safe-owed (rec.Owes s y c ∷ R) r x h is = go (same r s) refl is (safe-owed R r x h.1)
  where
    go : (b : Bool) → same r s ≡ b → unwrap_or (given b (Some y)) (owed_by R r) ≡ Some x → (owed_by R r ≡ Some x → IsOwed R r x) → IsOwed (rec.Owes s y c ∷ R) r x
    go true e k later =
        let it : y ≡ x = cc in
        record { thread = ap (λ (z : ObjId). z.kind) (sym it) ∙ h.0.1; alive = ap (λ z. is_alive R z) (sym it) ∙ h.0.2; made = subst (λ (z : ObjId). IsReplyMade R z) (sym (same-equal r s e)) h.0.0 }
    go false e k later = let i : IsOwed R r x = later k in record { thread = i.thread; alive = i.alive; made = i.made }
safe-owed (rec.Paid s y message ∷ R) r x h is = go (same r s) is (safe-owed R r x h.1)
  where
    go : (b : Bool) → unwrap_or (given b None) (owed_by R r) ≡ Some x → (owed_by R r ≡ Some x → IsOwed R r x) → IsOwed (rec.Paid s y message ∷ R) r x
    go true k later = absurd cc
    go false k later = let i : IsOwed R r x = later k in record { thread = i.thread; alive = i.alive; made = i.made }
safe-owed (rec.Void s y ending ∷ R) r x h is = go (same r s) is (safe-owed R r x h.1)
  where
    go : (b : Bool) → unwrap_or (given b None) (owed_by R r) ≡ Some x → (owed_by R r ≡ Some x → IsOwed R r x) → IsOwed (rec.Void s y ending ∷ R) r x
    go true k later = absurd cc
    go false k later = let i : IsOwed R r x = later k in record { thread = i.thread; alive = i.alive; made = i.made }
safe-owed (rec.Closed o ∷ R) r x h is =
    let i : IsOwed R r x = safe-owed R r x h.1 is in
    let other : x ≢ o = λ e. (h.0 (ap (λ (z : ObjId). z.kind) (sym e) ∙ i.thread)).1 r (is ∙ ap (λ z. Some z) e) in
    record { thread = i.thread; alive = alive-closed R x o other i.alive; made = i.made }
safe-owed (rec.Made o form ∷ R) r x h is =
    let i : IsOwed R r x = safe-owed R r x h.1 is in
    record { thread = i.thread; alive = alive-more R x (same x o) i.alive; made = (i.made.0, made-more (same r o) _ i.made.1) }
safe-owed (_ ∷ R) r x h is = let i : IsOwed R r x = safe-owed R r x h.1 is in record { thread = i.thread; alive = i.alive; made = i.made }

-- no thread is owed twice
pub safe-one_debt : (R : Log) (r s x : ObjId) → Each Safe R → owed_by R r ≡ Some x → owed_by R s ≡ Some x → r ≡ s
safe-one_debt [] r s x h is too = absurd cc
safe-one_debt (rec.Owes o y c ∷ R) r s x h is too = go (same r o) refl (same s o) refl is too (safe-one_debt R r s x h.1)
  where
    go : (a : Bool) → same r o ≡ a → (b : Bool) → same s o ≡ b → unwrap_or (given a (Some y)) (owed_by R r) ≡ Some x → unwrap_or (given b (Some y)) (owed_by R s) ≡ Some x
        → (owed_by R r ≡ Some x → owed_by R s ≡ Some x → r ≡ s) → r ≡ s
    go true e true f k l later = same-equal r o e ∙ sym (same-equal s o f)
    go true e false f k l later = let it : y ≡ x = cc in absurd (h.0.4 s (l ∙ ap (λ z. Some z) (sym it)))
    go false e true f k l later = let it : y ≡ x = cc in absurd (h.0.4 r (k ∙ ap (λ z. Some z) (sym it)))
    go false e false f k l later = later k l
safe-one_debt (rec.Paid o y message ∷ R) r s x h is too = go (same r o) (same s o) is too (safe-one_debt R r s x h.1)
  where
    go : (a b : Bool) → unwrap_or (given a None) (owed_by R r) ≡ Some x → unwrap_or (given b None) (owed_by R s) ≡ Some x → (owed_by R r ≡ Some x → owed_by R s ≡ Some x → r ≡ s) → r ≡ s
    go true b k l later = absurd cc
    go false true k l later = absurd cc
    go false false k l later = later k l
safe-one_debt (rec.Void o y ending ∷ R) r s x h is too = go (same r o) (same s o) is too (safe-one_debt R r s x h.1)
  where
    go : (a b : Bool) → unwrap_or (given a None) (owed_by R r) ≡ Some x → unwrap_or (given b None) (owed_by R s) ≡ Some x → (owed_by R r ≡ Some x → owed_by R s ≡ Some x → r ≡ s) → r ≡ s
    go true b k l later = absurd cc
    go false true k l later = absurd cc
    go false false k l later = later k l
safe-one_debt (_ ∷ R) r s x h is too = safe-one_debt R r s x h.1 is too

-- where none is found, none in the list passes
find-misses : (p : ObjId → Bool) (xs : List ObjId) (y : ObjId) → find p xs ≡ None → In y xs → p y ≡ false
find-misses p [] y h i = absurd i
find-misses p (x ∷ xs) y h i = go (p x) refl h i (find-misses p xs y)
  where
    go : (b : Bool) → p x ≡ b → cond b (Some x) (find p xs) ≡ None → In y (x ∷ xs) → (find p xs ≡ None → In y xs → p y ≡ false) → p y ≡ false
    go true e k i later = absurd cc
    go false e k (inl s) later = ap p s ∙ e
    go false e k (inr j) later = later k j

-- for whom no reply object is found is owed nothing
pub safe-owing_none : (R : Log) (x : ObjId) → Each Safe R → owing R x ≡ None → IsOwedNothing R x
unfolding owing
safe-owing_none R x h none r is =
    let i : IsOwed R r x = safe-owed R r x h is in
    let missed : is_just (owed_by R r) x ≡ false = find-misses (λ r. is_just (owed_by R r) x) (replies R) r none (made-in R r kind.Reply i.made.0 i.made.1) in
    let clash : true ≡ false = sym (same-self x) ∙ ap (λ o. is_just o x) (sym is) ∙ missed in
    absurd cc

-- the reply object that is found owes it
pub owing-owes : (R : Log) (x r : ObjId) → owing R x ≡ Some r → owed_by R r ≡ Some x
unfolding owing
owing-owes R x r is = is_just-some (owed_by R r) x (find-passes (λ r. is_just (owed_by R r) x) (replies R) r is)

-- what a slot holds is a capability to what was made
pub safe-held : (R : Log) (c : ObjId) (i : ℕ) (k : Cap) → Each Safe R → slot R c i ≡ Some k → was_made R k.obj ≡ true
safe-held [] c i k h is = absurd cc
safe-held (rec.Slot d j held ∷ R) c i k h is = go (same c d && (i == j)) is (safe-held R c i k h.1)
  where
    go : (b : Bool) → unwrap_or (given b held) (slot R c i) ≡ Some k → (slot R c i ≡ Some k → was_made R k.obj ≡ true) → was_made R k.obj ≡ true
    go true e later = h.0 k e
    go false e later = later e
safe-held (rec.Made o form ∷ R) c i k h is = made-more (same k.obj o) _ (safe-held R c i k h.1 is)
safe-held (_ ∷ R) c i k h is = safe-held R c i k h.1 is

-- what holds of each record so far, and of each record of a line
pub each-onto : (P : Log → Rec → Type 0) (R : Log) (made : List Rec) → Each P R → EachOf P R made → Each P (onto made R)
each-onto P R [] h k = h
each-onto P R (r ∷ made) h k = each-onto P (r ∷ R) made (k.0, h) k.1
