-- Who follows a thread in a list in which each is once, and in that list without the thread.
use Rattle.std.specs.Prelude.{◌≡◌, ◌≢◌, Bool, true, false, cond, List, [], ◌∷◌, Option, Some, None}
use Rattle.std.specs.Option.{IfSome}
use Rattle.std.proofs.Common.{refl, ap, sym, ◌∙◌, inl, inr, subst}
use Rattle.mcs_types.specs.declared.id.ObjId.{ObjId}
use Rattle.mcs_types.specs.Chains.{head_of}
use Rattle.mcs_types.specs.Ids.{same}
use Rattle.mcs_types.proofs.Ids.{same-self, same-equal, same-other}
use Rattle.mcs_book.specs.Growing.{Waiter, without, threads_in}
use Rattle.mcs_book.proofs.Queues.Sorted.{In, Distinct}
use Rattle.mcs_book.proofs.SoundLogs.KeptLaws.{same-never}
use Rattle.mcs_state.specs.Nexts.{next_among}

-- a list from one of it on
abbrev pub from_on : Option ObjId → List ObjId → List ObjId
from_on None xs = []
from_on (Some x) [] = []
from_on (Some x) (y ∷ ys) = cond (same x y) (y ∷ ys) (from_on (Some x) ys)

-- a list without one
abbrev pub removed : ObjId → List ObjId → List ObjId
removed x [] = []
removed x (y ∷ ys) = cond (same x y) (removed x ys) (y ∷ removed x ys)

-- those who follow x in a list, and what is so of them
pub record Followed (x : ObjId) (xs : List ObjId) : Type 0 where
  pub rest : List ObjId
  pub from : from_on (Some x) xs ≡ x ∷ rest
  pub next : next_among x xs ≡ head_of rest
  pub stays : from_on (head_of rest) xs ≡ rest
  pub leaves : from_on (head_of rest) (removed x xs) ≡ rest
  pub among : (y : ObjId) → In y rest → In y xs
  pub apart : In x rest → ⊥

-- a list from its first on is the list
pub from-first : (xs : List ObjId) → from_on (head_of xs) xs ≡ xs
from-first [] = refl
from-first (x ∷ xs) = rw (same-self x) refl

-- the first before one is not it
beside : (o : Option ObjId) (y : ObjId) (ys : List ObjId) → IfSome o (λ z. z ≢ y) → from_on o (y ∷ ys) ≡ from_on o ys
beside None y ys h = refl
beside (Some z) y ys h = rw (same-other z y h) refl

heads : (y : ObjId) (zs : List ObjId) → (In y zs → ⊥) → IfSome (head_of zs) (λ z. z ≢ y)
heads y [] h = tt
heads y (z ∷ zs) h = λ e. h (inl (sym e))

-- no thread is removed who is not there
pub removed-none : (x : ObjId) (xs : List ObjId) → (In x xs → ⊥) → removed x xs ≡ xs
removed-none x [] h = refl
removed-none x (y ∷ ys) h = rw (same-other x y (λ e. h (inl e))) (ap (λ zs. y ∷ zs) (removed-none x ys (λ i. h (inr i))))

-- each of a list is followed by the rest of it
pub followed : (x : ObjId) (xs : List ObjId) → In x xs → Distinct xs → Followed x xs
followed x [] i d = absurd i
followed x (y ∷ ys) i d = go (same x y) refl i (λ j. followed x ys j d.1)
  where
    go : (b : Bool) → same x y ≡ b → In x (y ∷ ys) → (In x ys → Followed x ys) → Followed x (y ∷ ys)
    go true e i later =
        let it : x ≡ y = same-equal x y e in
        let apart : In x ys → ⊥ = subst (λ z. In z ys → ⊥) (sym it) d.0 in
        let other = heads y ys d.0 in
        record {
          rest = ys;
          from = rw e (ap (λ z. z ∷ ys) (sym it));
          next = rw e refl;
          stays = beside (head_of ys) y ys other ∙ from-first ys;
          leaves = rw e (ap (from_on (head_of ys)) (removed-none x ys apart) ∙ from-first ys);
          among = λ z j. inr j;
          apart = apart;
        }
    go false e (inl it) later = absurd (same-never x y it e)
    go false e (inr j) later =
        let f = later j in
        let other = heads y f.rest (λ k. d.0 (f.among y k)) in
        record {
          rest = f.rest;
          from = rw e f.from;
          next = rw e f.next;
          stays = beside (head_of f.rest) y ys other ∙ f.stays;
          leaves = rw e (beside (head_of f.rest) y (removed x ys) other ∙ f.leaves);
          among = λ z k. inr (f.among z k);
          apart = f.apart;
        }

-- the threads of waiters without one are the threads without it
pub threads-without : (x : ObjId) (vs : List Waiter) → threads_in (without x vs) ≡ removed x (threads_in vs)
threads-without x [] = refl
threads-without x (v ∷ vs) = go (same x v.thread) (threads-without x vs)
  where
    go : (b : Bool) → threads_in (without x vs) ≡ removed x (threads_in vs) → threads_in (cond b (without x vs) (v ∷ without x vs)) ≡ cond b (removed x (threads_in vs)) (v.thread ∷ removed x (threads_in vs))
    go true h = h
    go false h = ap (λ xs. v.thread ∷ xs) h
