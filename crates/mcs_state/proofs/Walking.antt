-- The threads that are named one after the other are those of the queue.
use Rattle.std.specs.Prelude.{ℕ, zero, suc, ◌≡◌, ◌≤◌, ◌+◌, ◌⊎◌, Bool, true, false, cond, List, [], ◌∷◌, length, Option}
use Rattle.std.proofs.Common.{refl, ap, sym, ◌∙◌, inl, inr, arith, subst}
use Rattle.mcs_types.specs.declared.id.ObjId.{ObjId}
use Rattle.mcs_types.specs.declared.record.Queue.{Queue}
use Rattle.mcs_types.specs.declared.id.Kind.{Kind}
use Rattle.mcs_types.specs.declared.id.Kind.TheVariants as kind
use Rattle.mcs_types.specs.declared.record.Rec.TheVariants as rec
use Rattle.mcs_types.specs.Ids.{same, same_kind}
use Rattle.mcs_types.specs.Chains.{head_of}
use Rattle.mcs_types.proofs.Ids.{same-self, same-equal}
use Rattle.mcs_book.specs.Logs.{Log, counted}
use Rattle.mcs_book.specs.Objects.{made_of, makes_kind}
use Rattle.mcs_book.specs.Queues.{is_ahead, queued_in, first_in}
use Rattle.mcs_book.specs.Sound.{Sound}
use Rattle.mcs_book.proofs.Queues.Sorted.{In, Sorted, ahead-in}
use Rattle.mcs_book.proofs.Queues.QueueLaws.{line-sorted, queued_in-growing, ahead-irreflexive}
use Rattle.mcs_book.proofs.Lengths.Queues.{line-short}
use Rattle.mcs_book.proofs.Firm.Cancel.{in-line}
use Rattle.mcs_state.specs.Nexts.{next_among, next_in, next_of, behind}

-- a list is the end of another
abbrev pub Ends : List ObjId → List ObjId → Type 0
Ends ts [] = ts ≡ []
Ends ts (x ∷ xs) = (ts ≡ x ∷ xs) ⊎ Ends ts xs

ends-same : (ts xs : List ObjId) → ts ≡ xs → Ends ts xs
ends-same ts [] e = e
ends-same ts (x ∷ xs) e = inl e

ends-rest : (t : ObjId) (ts xs : List ObjId) → Ends (t ∷ ts) xs → Ends ts xs
ends-rest t ts [] e = absurd cc
ends-rest t ts (x ∷ xs) (inl e) = let rest : ts ≡ xs = cc in inr (ends-same ts xs rest)
ends-rest t ts (x ∷ xs) (inr e) = inr (ends-rest t ts xs e)

ends-in : (t : ObjId) (ts xs : List ObjId) → Ends (t ∷ ts) xs → In t xs
ends-in t ts [] e = absurd cc
ends-in t ts (x ∷ xs) (inl e) = let it : t ≡ x = cc in inl it
ends-in t ts (x ∷ xs) (inr e) = inr (ends-in t ts xs e)

-- after a thread of a list in order comes the first of its rest
next-behind : (R : Log) (t : ObjId) (ts xs : List ObjId) → Sorted (is_ahead R) xs → Ends (t ∷ ts) xs → next_among t xs ≡ head_of ts
next-behind R t ts [] s e = absurd cc
next-behind R t ts (x ∷ xs) s (inl e) =
    let it : x ≡ t = cc in
    let rest : xs ≡ ts = cc in
    ap (λ b. cond b (head_of xs) (next_among t xs)) (ap (λ u. same t u) it ∙ same-self t) ∙ ap (λ us. head_of us) rest
next-behind R t ts (x ∷ xs) s (inr e) = go (same t x) refl (next-behind R t ts xs s.1 e)
  where
    go : (b : Bool) → same t x ≡ b → next_among t xs ≡ head_of ts → cond b (head_of xs) (next_among t xs) ≡ head_of ts
    go false other h = h
    go true it h = absurd (ahead-irreflexive R x (sym (ap (λ u. is_ahead R x u) (same-equal t x it)) ∙ ahead-in (is_ahead R) x xs t s.0 (ends-in t ts xs e)))

-- who follows a thread of a queue
next-in_queue : (R : Log) (q : Queue) (t : ObjId) (ts : List ObjId) → Sorted (is_ahead R) (queued_in R q) → Ends (t ∷ ts) (queued_in R q) → next_of R t ≡ head_of ts
unfolding next_of
next-in_queue R q t ts s e = ap (λ o. next_in R o t) (in-line R q t (ends-in t ts (queued_in R q) e)) ∙ next-behind R t ts (queued_in R q) s e

walked : (R : Log) (q : Queue) (n : ℕ) (ts : List ObjId) → Sorted (is_ahead R) (queued_in R q) → Ends ts (queued_in R q) → length ts ≤ n → behind n R (head_of ts) ≡ ts
walked R q zero [] s e few = refl
walked R q zero (t ∷ ts) s e few = absurd (omega (arith, few))
walked R q (suc n) [] s e few = refl
walked R q (suc n) (t ∷ ts) s e few = ap (λ us. t ∷ us) (ap (λ o. behind n R o) (next-in_queue R q t ts s e) ∙ walked R q n ts s (ends-rest t ts (queued_in R q) e) (omega (arith, few)))

-- as many are made of a kind as there are records that make one
made-count : (R : Log) (k : Kind) → length (made_of R k) ≡ counted (makes_kind k) R
made-count [] k = refl
made-count (rec.Made o f ∷ R) k = go (same_kind o.kind k) (made-count R k)
  where
    go : (b : Bool) → length (made_of R k) ≡ counted (makes_kind k) R → length (cond b (o ∷ made_of R k) (made_of R k)) ≡ cond b (counted (makes_kind k) R + 1) (counted (makes_kind k) R)
    go true h = omega (arith, h)
    go false h = h
made-count (_ ∷ R) k = made-count R k

-- the law: all of a queue are named, first to last
pub all-walked : (R : Log) (q : Queue) (n : ℕ) → Sound R → counted (makes_kind kind.Thread) R ≤ n → behind n R (first_in R q) ≡ queued_in R q
unfolding first_in
all-walked R q n sound few =
    let sorted : Sorted (is_ahead R) (queued_in R q) = subst (λ us. Sorted (is_ahead R) us) (sym (queued_in-growing R q sound)) (line-sorted R q sound) in
    let short = line-short R q in
    let made = made-count R kind.Thread in
    walked R q n (queued_in R q) sorted (ends-same (queued_in R q) (queued_in R q) refl) (omega (arith, short, made, few))

-- the same, from who is first
pub all-from : (R : Log) (q : Queue) (o : Option ObjId) → Sound R → counted (makes_kind kind.Thread) R ≤ 256 → o ≡ first_in R q → behind 256 R o ≡ queued_in R q
all-from R q o sound few e = ap (λ x. behind 256 R x) e ∙ all-walked R q 256 sound few
