-- Lists of waiters: who is among them after one joins, leaves or shifts.
use Rattle.std.specs.Prelude.{ℕ, Bool, true, false, cond, ◌||◌, ◌≡◌, nat_lt, List, [], ◌∷◌, refl}
use Rattle.std.proofs.Common.{sym, ◌∙◌, ap, inl, inr}
use Rattle.mcs_types.specs.declared.id.ObjId.{ObjId}
use Rattle.mcs_types.specs.Ids.{same}
use Rattle.mcs_book.specs.Growing.{Waiter, insert_behind, without, is_among, shifted, threads_in}
use Rattle.mcs_types.proofs.Ids.{same-self, same-equal}
use Rattle.mcs_book.proofs.Queues.Sorted.{In}

-- who is among waiters with one more
pub among-insert : (t : ObjId) (w : Waiter) (vs : List Waiter) → is_among t (insert_behind w vs) ≡ (same t w.thread || is_among t vs)
among-insert t w [] = refl
among-insert t w (v ∷ vs) = go (nat_lt v.priority w.priority) (among-insert t w vs)
  where
    swap : (a b c : Bool) → (a || (b || c)) ≡ (b || (a || c))
    swap true true c = refl
    swap true false c = refl
    swap false true c = refl
    swap false false c = refl

    go : (b : Bool) → is_among t (insert_behind w vs) ≡ (same t w.thread || is_among t vs) → is_among t (cond b (w ∷ v ∷ vs) (v ∷ insert_behind w vs)) ≡ (same t w.thread || (same t v.thread || is_among t vs))
    go true h = refl
    go false h = ap (λ b. same t v.thread || b) h ∙ swap (same t v.thread) (same t w.thread) (is_among t vs)

-- who is among waiters without one
pub among-without : (t u : ObjId) (vs : List Waiter) → is_among t (without u vs) ≡ cond (same t u) false (is_among t vs)
among-without t u [] = none (same t u)
  where
    none : (b : Bool) → false ≡ cond b false false
    none true = refl
    none false = refl
among-without t u (v ∷ vs) = go (same u v.thread) refl (same t u) refl (among-without t u vs)
  where
    go : (b : Bool) → same u v.thread ≡ b → (c : Bool) → same t u ≡ c → is_among t (without u vs) ≡ cond c false (is_among t vs)
        → is_among t (cond b (without u vs) (v ∷ without u vs)) ≡ cond c false (same t v.thread || is_among t vs)
    go true e true f h = h
    go true e false f h = let s : u ≡ v.thread = same-equal u v.thread e in h ∙ ap (λ b. b || is_among t vs) (sym f ∙ ap (λ (x : ObjId). same t x) s)
    go false e true f h = let s : t ≡ u = same-equal t u f in ap (λ b. same t v.thread || b) h ∙ ap (λ b. b || false) (ap (λ (x : ObjId). same x v.thread) s ∙ e)
    go false e false f h = ap (λ b. same t v.thread || b) h

-- a shift moves no thread in or out
pub among-shifted : (t u : ObjId) (p : ℕ) (vs : List Waiter) → is_among t (shifted u p vs) ≡ is_among t vs
among-shifted t u p vs = go (is_among u vs) refl
  where
    there : (b : Bool) → same t u ≡ b → is_among u vs ≡ true → (b || cond b false (is_among t vs)) ≡ is_among t vs
    there true e h = let s : t ≡ u = same-equal t u e in rw (s, h) refl
    there false e h = refl

    go : (b : Bool) → is_among u vs ≡ b → is_among t (cond b (insert_behind (record { thread = u; priority = p }) (without u vs)) vs) ≡ is_among t vs
    go true e = among-insert t (record { thread = u; priority = p }) (without u vs) ∙ ap (λ b. same t u || b) (among-without t u vs) ∙ there (same t u) refl e
    go false e = refl

-- who is among waiters is one of their threads
pub among-in : (t : ObjId) (vs : List Waiter) → is_among t vs ≡ true → In t (threads_in vs)
among-in t [] h = absurd cc
among-in t (v ∷ vs) h = go (same t v.thread) refl h (among-in t vs)
  where
    go : (b : Bool) → same t v.thread ≡ b → (b || is_among t vs) ≡ true → (is_among t vs ≡ true → In t (threads_in vs)) → In t (threads_in (v ∷ vs))
    go true e h later = inl (same-equal t v.thread e)
    go false e h later = inr (later h)

-- and their threads are among them
pub in-among : (t : ObjId) (vs : List Waiter) → In t (threads_in vs) → is_among t vs ≡ true
in-among t [] i = absurd i
in-among t (v ∷ vs) (inl e) = ap (λ b. b || is_among t vs) (ap (λ (x : ObjId). same x v.thread) e ∙ same-self v.thread)
in-among t (v ∷ vs) (inr i) = ap (λ b. same t v.thread || b) (in-among t vs i) ∙ top (same t v.thread)
  where
    top : (b : Bool) → (b || true) ≡ true
    top true = refl
    top false = refl
