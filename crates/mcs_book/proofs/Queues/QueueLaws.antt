-- A line as the list that joins, parts and priorities build is the line in order.
use Rattle.std.specs.Prelude.{ℕ, ◌≤◌, ◌<◌, Bool, true, false, cond, ◌||◌, ◌≡◌, ◌≢◌, ◌⊎◌, List, [], ◌∷◌, Some, None, refl, length, nat_lt, filter, map, unwrap_or}
use Rattle.std.proofs.Common.{sym, ◌∙◌, ap, inl, inr, arith, subst}
use Rattle.mcs_types.specs.declared.id.ObjId.{ObjId}
use Rattle.mcs_types.specs.declared.id.Kind.TheVariants as kind
use Rattle.mcs_types.specs.declared.record.Queue.{Queue}
use Rattle.mcs_types.specs.declared.record.Rec.{Rec}
use Rattle.mcs_types.specs.declared.record.Rec.TheVariants.{Prio, Joins, Parts, Made}
use Rattle.mcs_types.specs.Ids.{same, same_kind}
use Rattle.mcs_book.specs.Logs.{Log, given}
use Rattle.mcs_book.specs.Objects.{was_made}
use Rattle.mcs_book.specs.Threads.{threads, prio_of}
use Rattle.mcs_types.specs.Chains.{head_of}
use Rattle.mcs_book.specs.Queues.{queue_of, is_queue, same_queue, stands_in, place_of, comes_before, is_ahead, queued_in, first_in}
use Rattle.mcs_book.specs.Growing.{Waiter, insert_behind, without, is_among, growing_queue, threads_in}
use Rattle.mcs_book.specs.Sound.{Sound}
use Rattle.mcs_types.proofs.Ids.{same-self, same-equal, same-other}
use Rattle.mcs_book.proofs.Objects.Same.{same_queue-self, is_queue-some}
use Rattle.mcs_book.proofs.Queues.Sorted.{In, Sorted, AheadOfAll, filter-in, in-filter, distinct-filter, sorted-connected, sorted-unique, sort-in, in-sort, sort-sorted}
use Rattle.mcs_book.proofs.Objects.MadeLaws.{made-in, made-distinct, alive-made}
use Rattle.mcs_book.proofs.Queues.Waiting.{among-insert, among-without, among-shifted, among-in, in-among}

-- a thread is among the waiters of a line exactly where it is there
pub among-line : (R : Log) (t : ObjId) (q : Queue) → Sound R → is_among t (growing_queue R q) ≡ is_queue (queue_of R t) q
among-line [] t q s = refl
among-line (Joins u k reply ∷ R) t q s = go (same t u) refl (same_queue k q) refl (among-line R t q s.1)
  where
    w : Waiter
    w = record { thread = u; priority = prio_of R u }

    go : (b : Bool) → same t u ≡ b → (c : Bool) → same_queue k q ≡ c → is_among t (growing_queue R q) ≡ is_queue (queue_of R t) q
        → is_among t (cond c (insert_behind w (growing_queue R q)) (growing_queue R q)) ≡ is_queue (unwrap_or (given b (Some k)) (queue_of R t)) q
    go true e true f h = among-insert t w (growing_queue R q) ∙ ap (λ b. b || is_among t (growing_queue R q)) e ∙ sym f
    go true e false f h = let idle : queue_of R t ≡ None = ap (λ x. queue_of R x) (same-equal t u e) ∙ s.0.1.0 in h ∙ ap (λ o. is_queue o q) idle ∙ sym f
    go false e true f h = among-insert t w (growing_queue R q) ∙ ap (λ b. b || is_among t (growing_queue R q)) e ∙ h
    go false e false f h = h
among-line (Parts u k ∷ R) t q s = among-without t u (growing_queue R q) ∙ go (same t u) (among-line R t q s.1)
  where
    go : (b : Bool) → is_among t (growing_queue R q) ≡ is_queue (queue_of R t) q → cond b false (is_among t (growing_queue R q)) ≡ is_queue (unwrap_or (given b None) (queue_of R t)) q
    go true h = refl
    go false h = h
among-line (Prio u p ∷ R) t q s = among-shifted t u p.0 (growing_queue R q) ∙ among-line R t q s.1
among-line (_ ∷ R) t q s = among-line R t q s.1

-- what holds of each of a list
abbrev EachWaiter : (Waiter → Type 0) → List Waiter → Type 0
EachWaiter P [] = Unit {0}
EachWaiter P (v ∷ vs) = P v × EachWaiter P vs

-- by priorities and places
abbrev Leads : (ObjId → ℕ) → Waiter → Waiter → Type 0
Leads at v w = (w.priority < v.priority) ⊎ ((v.priority ≡ w.priority) × (at v.thread < at w.thread))

-- each leads all after it
abbrev Ordered : (ObjId → ℕ) → List Waiter → Type 0
Ordered at [] = Unit {0}
Ordered at (v ∷ vs) = EachWaiter (Leads at v) vs × Ordered at vs

-- what follows from it holds of each too
each-map : (P Q : Waiter → Type 0) → ((v : Waiter) → P v → Q v) → (vs : List Waiter) → EachWaiter P vs → EachWaiter Q vs
each-map P Q f [] h = tt
each-map P Q f (v ∷ vs) h = (f v h.0, each-map P Q f vs h.1)

-- what follows from two
each-two : (P Q S : Waiter → Type 0) → ((v : Waiter) → P v → Q v → S v) → (vs : List Waiter) → EachWaiter P vs → EachWaiter Q vs → EachWaiter S vs
each-two P Q S f [] a b = tt
each-two P Q S f (v ∷ vs) a b = (f v a.0 b.0, each-two P Q S f vs a.1 b.1)

-- one more waiter
each-insert : (P : Waiter → Type 0) (w : Waiter) (vs : List Waiter) → P w → EachWaiter P vs → EachWaiter P (insert_behind w vs)
each-insert P w [] p h = (p, tt)
each-insert P w (v ∷ vs) p h =
    elim (nat_lt v.priority w.priority) as (λ b. EachWaiter P (cond b (w ∷ v ∷ vs) (v ∷ insert_behind w vs))) [ true ↦ (p, h) | false ↦ (h.0, each-insert P w vs p h.1) ]

-- one waiter less
each-without : (P : Waiter → Type 0) (t : ObjId) (vs : List Waiter) → EachWaiter P vs → EachWaiter P (without t vs)
each-without P t [] h = tt
each-without P t (v ∷ vs) h =
    elim (same t v.thread) as (λ b. EachWaiter P (cond b (without t vs) (v ∷ without t vs))) [ true ↦ each-without P t vs h.1 | false ↦ (h.0, each-without P t vs h.1) ]

-- a list stays in order without one
ordered-without : (at : ObjId → ℕ) (t : ObjId) (vs : List Waiter) → Ordered at vs → Ordered at (without t vs)
ordered-without at t [] h = tt
ordered-without at t (v ∷ vs) h =
    elim (same t v.thread) as (λ b. Ordered at (cond b (without t vs) (v ∷ without t vs))) [ true ↦ ordered-without at t vs h.1 | false ↦ (each-without (Leads at v) t vs h.0, ordered-without at t vs h.1) ]

-- who leads a greater priority leads a lower one
leads-lower : (at : ObjId → ℕ) (w v x : Waiter) → v.priority < w.priority → Leads at v x → Leads at w x
leads-lower at w v x lt (inl h) = inl (omega (arith, lt, h))
leads-lower at w v x lt (inr h) = inl (omega (arith, lt, h.0))

-- who came before, at this priority or above, leads
leads-later : (p q i j : ℕ) → p ≤ q → i < j → (p < q) ⊎ ((q ≡ p) × (i < j))
leads-later p q i j le lt = grind arith

-- the test of "less", read
pub below : (a b : ℕ) → nat_lt a b ≡ true → a < b
below a b h = grind arith

-- the same where it fails
not_below : (a b : ℕ) → nat_lt a b ≡ false → b ≤ a
not_below a b h = grind arith

-- a list stays in order with one more, who comes last
ordered-insert : (at : ObjId → ℕ) (w : Waiter) (vs : List Waiter) → EachWaiter (λ v. at v.thread < at w.thread) vs → Ordered at vs → Ordered at (insert_behind w vs)
ordered-insert at w [] e h = (tt, tt)
ordered-insert at w (v ∷ vs) e h = go (nat_lt v.priority w.priority) refl (ordered-insert at w vs e.1 h.1)
  where
    go : (b : Bool) → nat_lt v.priority w.priority ≡ b → Ordered at (insert_behind w vs) → Ordered at (cond b (w ∷ v ∷ vs) (v ∷ insert_behind w vs))
    go true is r = let lt : v.priority < w.priority = below _ _ is in ((inl lt, each-map (Leads at v) (Leads at w) (λ x. leads-lower at w v x lt) vs h.0), h)
    go false is r = (each-insert (Leads at v) w vs (leads-later w.priority v.priority (at v.thread) (at w.thread) (not_below _ _ is) e.0) h.0, r)

-- who leads at some places leads at the same places
leads-same : (at to : ObjId → ℕ) (v w : Waiter) → to v.thread ≡ at v.thread → to w.thread ≡ at w.thread → Leads at v w → Leads to v w
leads-same at to v w e f (inl h) = inl h
leads-same at to v w e f (inr h) = inr (h.0, omega (arith, h.1, e, f))

-- places that are the same for all of a list order it alike
ordered-same : (at to : ObjId → ℕ) (vs : List Waiter) → EachWaiter (λ v. to v.thread ≡ at v.thread) vs → Ordered at vs → Ordered to vs
ordered-same at to [] e h = tt
ordered-same at to (v ∷ vs) e h = (each-two (λ w. to w.thread ≡ at w.thread) (Leads at v) (Leads to v) (λ w f l. leads-same at to v w e.0 f l) vs e.1 h.0, ordered-same at to vs e.1 h.1)

-- who is not among a list
each-other : (u : ObjId) (vs : List Waiter) → is_among u vs ≡ false → EachWaiter (λ v. same v.thread u ≡ false) vs
each-other u [] h = tt
each-other u (v ∷ vs) h = go (same u v.thread) refl h (each-other u vs)
  where
    go : (b : Bool) → same u v.thread ≡ b → (b || is_among u vs) ≡ false → (is_among u vs ≡ false → EachWaiter (λ v. same v.thread u ≡ false) vs) → EachWaiter (λ v. same v.thread u ≡ false) (v ∷ vs)
    go true e h later = absurd cc
    go false e h later = (same-other v.thread u (λ s. let no : true ≡ false = sym (same-self u) ∙ ap (λ (x : ObjId). same u x) (sym s) ∙ e in absurd cc), later h)

-- a waiter has its thread's priority, and a place in the log
abbrev IsOf : Log → Waiter → Type 0
IsOf R v = (v.priority ≡ prio_of R v.thread) × (place_of R v.thread < length R)

-- waiters with their priorities and places, in order
record InOrder (R : Log) (vs : List Waiter) : Type 0 where
  each : EachWaiter (IsOf R) vs
  ordered : Ordered (place_of R) vs

-- a record of no priority and no place
aside : (R : Log) (rec : Rec) (vs : List Waiter) → InOrder R vs → ((t : ObjId) → prio_of (rec ∷ R) t ≡ prio_of R t) → ((t : ObjId) → place_of (rec ∷ R) t ≡ place_of R t) → InOrder (rec ∷ R) vs
aside R rec vs i p a = record {
  each = each-map (IsOf R) (IsOf (rec ∷ R)) (λ v h. (h.0 ∙ sym (p v.thread), let e = a v.thread in omega (arith, h.1, e))) vs i.each;
  ordered = ordered-same (place_of R) (place_of (rec ∷ R)) vs (each-map (IsOf R) (λ v. place_of (rec ∷ R) v.thread ≡ place_of R v.thread) (λ v h. a v.thread) vs i.each) i.ordered;
}

-- u gets a new place, and is not among the list
module _ (R : Log) (rec : Rec) (u : ObjId)
    (prio : (t : ObjId) → same t u ≡ false → prio_of (rec ∷ R) t ≡ prio_of R t)
    (place : (t : ObjId) → same t u ≡ false → place_of (rec ∷ R) t ≡ place_of R t)
    (new : place_of (rec ∷ R) u ≡ length R) where
  -- a list without u stays in order
  others : (vs : List Waiter) → EachWaiter (λ v. same v.thread u ≡ false) vs → InOrder R vs → InOrder (rec ∷ R) vs
  others vs o i = record {
    each = each-two (λ v. same v.thread u ≡ false) (IsOf R) (IsOf (rec ∷ R)) (λ v n h. (h.0 ∙ sym (prio v.thread n), let e = place v.thread n in omega (arith, h.1, e))) vs o i.each;
    ordered = ordered-same (place_of R) (place_of (rec ∷ R)) vs (each-map (λ v. same v.thread u ≡ false) (λ v. place_of (rec ∷ R) v.thread ≡ place_of R v.thread) (λ v n. place v.thread n) vs o) i.ordered;
  }

  -- u after all of its priority
  behind : (p : ℕ) → p ≡ prio_of (rec ∷ R) u → (vs : List Waiter) → EachWaiter (λ v. same v.thread u ≡ false) vs → InOrder R vs → InOrder (rec ∷ R) (insert_behind (record { thread = u; priority = p }) vs)
  behind p e vs o i =
      let k : InOrder (rec ∷ R) vs = others vs o i in
      record {
        each = each-insert (IsOf (rec ∷ R)) (record { thread = u; priority = p }) vs (e, omega (arith, new)) k.each;
        ordered = ordered-insert (place_of (rec ∷ R)) (record { thread = u; priority = p }) vs
            (each-two (λ v. same v.thread u ≡ false) (IsOf R) (λ v. place_of (rec ∷ R) v.thread < place_of (rec ∷ R) u) (λ v n h. let f = place v.thread n in omega (arith, h.1, f, new)) vs o i.each) k.ordered;
      }

-- a place that is given
place-given : (b : Bool) (n m : ℕ) → b ≡ true → cond b n m ≡ n
place-given true n m e = refl
place-given false n m e = absurd cc

-- a place that is kept
place-kept : (b : Bool) (n m : ℕ) → b ≡ false → cond b n m ≡ m
place-kept true n m e = absurd cc
place-kept false n m e = refl

-- a priority that is kept
given-kept : (b : Bool) (n m : ℕ) → b ≡ false → unwrap_or (given b n) m ≡ m
given-kept true n m e = absurd cc
given-kept false n m e = refl

-- a priority that is set
given-set : (b : Bool) (n m : ℕ) → b ≡ true → unwrap_or (given b n) m ≡ n
given-set true n m e = refl
given-set false n m e = absurd cc

-- a line's waiters are in order
in_order : (R : Log) (q : Queue) → Sound R → InOrder R (growing_queue R q)
in_order [] q s = record { each = tt; ordered = tt }
in_order (Joins u k reply ∷ R) q s = go (same_queue k q) (in_order R q s.1)
  where
    prio : (t : ObjId) → same t u ≡ false → prio_of (Joins u k reply ∷ R) t ≡ prio_of R t
    prio t n = refl

    place : (t : ObjId) → same t u ≡ false → place_of (Joins u k reply ∷ R) t ≡ place_of R t
    place t n = place-kept (same t u) (length R) (place_of R t) n

    new : place_of (Joins u k reply ∷ R) u ≡ length R
    new = place-given (same u u) (length R) (place_of R u) (same-self u)

    none : is_among u (growing_queue R q) ≡ false
    none = among-line R u q s.1 ∙ ap (λ o. is_queue o q) s.0.1.0

    go : (b : Bool) → InOrder R (growing_queue R q) → InOrder (Joins u k reply ∷ R) (cond b (insert_behind (record { thread = u; priority = prio_of R u }) (growing_queue R q)) (growing_queue R q))
    go true i = behind R (Joins u k reply) u prio place new (prio_of R u) refl (growing_queue R q) (each-other u (growing_queue R q) none) i
    go false i = others R (Joins u k reply) u prio place new (growing_queue R q) (each-other u (growing_queue R q) none) i
in_order (Parts u k ∷ R) q s =
    let i : InOrder R (growing_queue R q) = in_order R q s.1 in
    aside R (Parts u k) (without u (growing_queue R q)) (record { each = each-without (IsOf R) u (growing_queue R q) i.each; ordered = ordered-without (place_of R) u (growing_queue R q) i.ordered }) (λ t. refl) (λ t. refl)
in_order (Prio u p ∷ R) q s = go (is_among u (growing_queue R q)) refl (in_order R q s.1)
  where
    rec : Rec
    rec = Prio u p

    prio : (t : ObjId) → same t u ≡ false → prio_of (Prio u p ∷ R) t ≡ prio_of R t
    prio t n = given-kept (same t u) p.0 (prio_of R t) n

    place : (t : ObjId) → same t u ≡ false → place_of (Prio u p ∷ R) t ≡ place_of R t
    place t n = place-kept (same t u) (length R) (place_of R t) n

    new : place_of (Prio u p ∷ R) u ≡ length R
    new = place-given (same u u) (length R) (place_of R u) (same-self u)

    gone : (b : Bool) (x : Bool) → b ≡ true → cond b false x ≡ false
    gone true x e = refl
    gone false x e = absurd cc

    none : is_among u (without u (growing_queue R q)) ≡ false
    none = among-without u u (growing_queue R q) ∙ gone (same u u) (is_among u (growing_queue R q)) (same-self u)

    go : (b : Bool) → is_among u (growing_queue R q) ≡ b → InOrder R (growing_queue R q) → InOrder (Prio u p ∷ R) (cond b (insert_behind (record { thread = u; priority = p.0 }) (without u (growing_queue R q))) (growing_queue R q))
    go true e i =
        behind R (Prio u p) u prio place new p.0 (sym (given-set (same u u) p.0 (prio_of R u) (same-self u))) (without u (growing_queue R q)) (each-other u (without u (growing_queue R q)) none)
        (record { each = each-without (IsOf R) u (growing_queue R q) i.each; ordered = ordered-without (place_of R) u (growing_queue R q) i.ordered })
    go false e i = others R (Prio u p) u prio place new (growing_queue R q) (each-other u (growing_queue R q) e) i
in_order (rec ∷ R) q s = aside R rec (growing_queue R q) (in_order R q s.1) (λ t. refl) (λ t. refl)

-- who leads comes before
ahead-true : (p a q b : ℕ) → (q < p) ⊎ ((p ≡ q) × (a < b)) → comes_before p a q b ≡ true
ahead-true p a q b h = grind arith

-- a waiter that leads is ahead
leads-ahead : (R : Log) (v w : Waiter) → IsOf R v → IsOf R w → Leads (place_of R) v w → is_ahead R v.thread w.thread ≡ true
leads-ahead R v w a b h =
    ahead-true (prio_of R v.thread) (place_of R v.thread) (prio_of R w.thread) (place_of R w.thread)
    (elim h [ inl l ↦ inl (let e = a.0 in let f = b.0 in omega (arith, l, e, f)) | inr l ↦ inr (sym a.0 ∙ l.0 ∙ b.0, l.1) ])

-- one that leads all is ahead of all
ahead-all : (R : Log) (v : Waiter) (vs : List Waiter) → IsOf R v → EachWaiter (IsOf R) vs → EachWaiter (Leads (place_of R) v) vs → AheadOfAll (is_ahead R) v.thread (threads_in vs)
ahead-all R v [] a e l = tt
ahead-all R v (w ∷ ws) a e l = (leads-ahead R v w a e.0 l.0, ahead-all R v ws a e.1 l.1)

-- waiters in order are sorted
ordered-sorted : (R : Log) (vs : List Waiter) → EachWaiter (IsOf R) vs → Ordered (place_of R) vs → Sorted (is_ahead R) (threads_in vs)
ordered-sorted R [] e o = tt
ordered-sorted R (v ∷ vs) e o = (ahead-all R v vs e.0 e.1 o.0, ordered-sorted R vs e.1 o.1)

-- the threads of a line's waiters are in order
pub line-sorted : (R : Log) (q : Queue) → Sound R → Sorted (is_ahead R) (threads_in (growing_queue R q))
line-sorted R q s = let i : InOrder R (growing_queue R q) = in_order R q s in ordered-sorted R (growing_queue R q) i.each i.ordered

-- a line's waiters have the priorities that their threads have
pub waiters-again : (R : Log) (q : Queue) → Sound R → map (λ (t : ObjId). record { thread = t; priority = prio_of R t }) (threads_in (growing_queue R q)) ≡ growing_queue R q
waiters-again R q s = let i : InOrder R (growing_queue R q) = in_order R q s in go (growing_queue R q) i.each
  where
    go : (vs : List Waiter) → EachWaiter (IsOf R) vs → map (λ (t : ObjId). record { thread = t; priority = prio_of R t }) (threads_in vs) ≡ vs
    go [] h = refl
    go (v ∷ vs) h = ap (λ n. (record v { priority = n }) ∷ map (λ (t : ObjId). record { thread = t; priority = prio_of R t }) (threads_in vs)) (sym h.0.0) ∙ ap (λ ws. v ∷ ws) (go vs h.1)

-- nothing comes before itself
before-not_self : (p a : ℕ) → comes_before p a p a ≡ true → ⊥
before-not_self p a h = grind arith

-- what comes before one that comes before
before-transitive : (p i q j r k : ℕ) → comes_before p i q j ≡ true → comes_before q j r k ≡ true → comes_before p i r k ≡ true
before-transitive p i q j r k = grind arith

-- no thread is ahead of itself
pub ahead-irreflexive : (R : Log) (t : ObjId) → is_ahead R t t ≡ true → ⊥
ahead-irreflexive R t h = before-not_self (prio_of R t) (place_of R t) h

-- who is ahead of one that is ahead
pub ahead-transitive : (R : Log) (t u v : ObjId) → is_ahead R t u ≡ true → is_ahead R u v ≡ true → is_ahead R t v ≡ true
ahead-transitive R t u v = before-transitive (prio_of R t) (place_of R t) (prio_of R u) (place_of R u) (prio_of R v) (place_of R v)

-- no thread is first, so there is none
pub first-none : (R : Log) (q : Queue) → ((x : ObjId) (k : Queue) → queue_of R x ≡ Some k → (x.kind ≡ kind.Thread) × (was_made R x ≡ true)) → first_in R q ≡ None → (x : ObjId) → queue_of R x ≢ Some q
unfolding first_in
first-none R q made none x stands =
    empty (queued_in R q) none (in-sort (is_ahead R) (ahead-irreflexive R) (ahead-transitive R) (filter (stands_in R q) (threads R)) x (in-filter (stands_in R q) (threads R) x (made-in R x kind.Thread ((made x q stands).0) ((made x q stands).1)) (ap (λ o. is_queue o q) stands ∙ same_queue-self q)))
  where
    empty : (xs : List ObjId) → head_of xs ≡ None → In x xs → ⊥
    empty [] h i = i
    empty (y ∷ ys) h i = absurd cc

-- the first of a line is there
pub first-stands : (R : Log) (q : Queue) (x : ObjId) → first_in R q ≡ Some x → queue_of R x ≡ Some q
unfolding first_in
first-stands R q x h =
    is_queue-some (queue_of R x) q ((filter-in (stands_in R q) (threads R) x (sort-in (is_ahead R) (ahead-irreflexive R) (ahead-transitive R) (filter (stands_in R q) (threads R)) x (head (queued_in R q) h))).1)
  where
    head : (xs : List ObjId) → head_of xs ≡ Some x → In x xs
    head [] h = absurd cc
    head (y ∷ ys) h = let it : y ≡ x = cc in inl (sym it)

-- who is in a queue was made
pub standing-made : (R : Log) (t : ObjId) (q : Queue) → Sound R → queue_of R t ≡ Some q → In t (threads R)
standing-made [] t q s h = absurd cc
standing-made (Joins u k reply ∷ R) t q s h = go (same t u) refl h (standing-made R t q s.1)
  where
    go : (b : Bool) → same t u ≡ b → unwrap_or (given b (Some k)) (queue_of R t) ≡ Some q → (queue_of R t ≡ Some q → In t (threads R)) → In t (threads R)
    go true e h later = let u_in : In u (threads R) = made-in R u kind.Thread s.0.0.0 (alive-made R u s.0.0.1) in subst (λ (x : ObjId). In x (threads R)) (sym (same-equal t u e)) u_in
    go false e h later = later h
standing-made (Parts u k ∷ R) t q s h = go (same t u) h (standing-made R t q s.1)
  where
    go : (b : Bool) → unwrap_or (given b None) (queue_of R t) ≡ Some q → (queue_of R t ≡ Some q → In t (threads R)) → In t (threads R)
    go true h later = absurd cc
    go false h later = later h
standing-made (Made o form ∷ R) t q s h = more (same_kind o.kind kind.Thread) (standing-made R t q s.1 h)
  where
    more : (c : Bool) → In t (threads R) → In t (cond c (o ∷ threads R) (threads R))
    more true i = inr i
    more false i = i
standing-made (_ ∷ R) t q s h = standing-made R t q s.1 h

-- the law: the line in order is the list that joins, parts and priorities build
pub queued_in-growing : (R : Log) (q : Queue) → Sound R → queued_in R q ≡ threads_in (growing_queue R q)
queued_in-growing R q s =
    sorted-unique (is_ahead R) (ahead-irreflexive R) (ahead-transitive R) (queued_in R q) (threads_in (growing_queue R q))
    (sort-sorted (is_ahead R) (ahead-irreflexive R) (ahead-transitive R) (filter (stands_in R q) (threads R)) (distinct-filter (stands_in R q) (threads R) (made-distinct R kind.Thread s)) apart)
    (line-sorted R q s) (λ u i. among u (sort-in (is_ahead R) (ahead-irreflexive R) (ahead-transitive R) (filter (stands_in R q) (threads R)) u i))
    (λ u i. in-sort (is_ahead R) (ahead-irreflexive R) (ahead-transitive R) (filter (stands_in R q) (threads R)) u (stands u i))
  where
    among : (u : ObjId) → In u (filter (stands_in R q) (threads R)) → In u (threads_in (growing_queue R q))
    among u i = among-in u (growing_queue R q) (among-line R u q s ∙ (filter-in (stands_in R q) (threads R) u i).1)

    stands : (u : ObjId) → In u (threads_in (growing_queue R q)) → In u (filter (stands_in R q) (threads R))
    stands u i =
        let b : is_queue (queue_of R u) q ≡ true = sym (among-line R u q s) ∙ in-among u (growing_queue R q) i in
        in-filter (stands_in R q) (threads R) u (standing-made R u q s (is_queue-some (queue_of R u) q b)) b

    apart : (t u : ObjId) → In t (filter (stands_in R q) (threads R)) → In u (filter (stands_in R q) (threads R)) → t ≢ u → (is_ahead R t u ≡ true) ⊎ (is_ahead R u t ≡ true)
    apart t u i j ne = sorted-connected (is_ahead R) (threads_in (growing_queue R q)) t u (line-sorted R q s) (among t i) (among u j) ne
