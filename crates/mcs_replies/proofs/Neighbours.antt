-- Neighbours in a list of places.
use Rattle.std.proofs.Common.{◌≡◌, ◌≤◌, ◌<◌, ◌||◌, ℕ, suc, Bool, true, false, cond, nat_eq, eqb, List, [], ◌∷◌, length, Option, Some, None, is_none, refl, ap, sym, ◌∙◌, arith}
use Rattle.std.proofs.lemmas.Grind.{common_steps}
use Rattle.std.proofs.lemmas.Bool.{false≢true}
use Rattle.std.specs.List.{IsDistinct, list_any, AllByRecursion}
use Rattle.std.proofs.lemmas.Map.Steps.{length-le_from_distinct_below}
use Rattle.mcs_types.specs.Chains.{head_of}
use Rattle.mcs_replies.specs.Neighbours.{has, Apart, below, above_from, above, upper, lower}
use Rattle.mcs_replies.specs.Links.{is_at}

pub has-head : (u : ℕ) (ps : List ℕ) → is_at (head_of ps) u ≡ true → has u ps ≡ true
has-head u [] h = absurd (false≢true h)
has-head u (x ∷ xs) h = grind (arith, common_steps)

-- what is above and below in the list under the top
pub above-under : (p u : ℕ) (qs : List ℕ) → Apart qs → has u qs ≡ true → above_from (Some p) u qs ≡ cond (is_at (head_of qs) u) (Some p) (above u qs)
above-under p u [] a h = absurd (false≢true h)
above-under p u (x ∷ xs) a h = grind (arith, common_steps)

above-out : (y p u : ℕ) (zs : List ℕ) → has u (y ∷ zs) ≡ false → is_at (above_from (Some y) p zs) u ≡ false
above-out y p u [] h = refl
above-out y p u (z ∷ zs) h = let r = above-out z p u zs in grind (arith, common_steps, r)

pub above-has : (p u : ℕ) (ps : List ℕ) → is_at (above p ps) u ≡ true → has u ps ≡ true
above-has p u [] h = absurd (false≢true h)
above-has p u (x ∷ xs) h = go (has u (x ∷ xs)) refl
  where
    none : (b : Bool) (o : Option ℕ) → is_at o u ≡ false → is_at (cond b None o) u ≡ false
    none true o e = refl
    none false o e = e

    go : (b : Bool) → has u (x ∷ xs) ≡ b → b ≡ true
    go true e = refl
    go false e = sym (none (nat_eq x p) (above_from (Some x) p xs) (above-out x p u xs e)) ∙ h

pub above-head : (u : ℕ) (ps : List ℕ) → is_at (head_of ps) u ≡ true → above u ps ≡ None
above-head u [] h = refl
above-head u (x ∷ xs) h = grind (arith, common_steps)

pub some-above : (x p : ℕ) (xs : List ℕ) → has p xs ≡ true → is_none (above_from (Some x) p xs) ≡ false
some-above x p [] h = absurd (false≢true (h))
some-above x p (y ∷ ys) h = let r = some-above y p ys in grind (arith, common_steps, r)

pub head-upper : (p : ℕ) (ps : List ℕ) → has p ps ≡ true → head_of (upper p ps) ≡ cond (is_none (above p ps)) None (head_of ps)
head-upper p [] h = refl
head-upper p (x ∷ xs) h = go (nat_eq x p) refl
  where
    go : (b : Bool) → nat_eq x p ≡ b → head_of (upper p (x ∷ xs)) ≡ cond (is_none (above p (x ∷ xs))) None (Some x)
    go true e = ap (λ b. head_of (cond b [] (x ∷ upper p xs))) e ∙ sym (ap (λ b. cond (is_none (cond b None (above_from (Some x) p xs))) None (Some x)) e)
    go false e =
        let i : has p xs ≡ true = sym (ap (λ b. b || has p xs) e) ∙ h in
        ap (λ b. head_of (cond b [] (x ∷ upper p xs))) e ∙ sym (ap (λ b. cond (is_none (cond b None (above_from (Some x) p xs))) None (Some x)) e ∙ ap (λ b. cond b None (Some x)) (some-above x p xs i))

-- the part above a place
pub has-upper : (p u : ℕ) (ps : List ℕ) → has u (upper p ps) ≡ true → has u ps ≡ true
has-upper p u [] h = h
has-upper p u (x ∷ xs) h = let r = has-upper p u xs in grind (arith, common_steps, r)

pub has-out : (p u : ℕ) (ps : List ℕ) → has u ps ≡ false → has u (upper p ps) ≡ false
has-out p u [] h = refl
has-out p u (x ∷ xs) h = let r = has-out p u xs in grind (arith, common_steps, r)

pub apart-upper : (p : ℕ) (ps : List ℕ) → Apart ps → Apart (upper p ps)
apart-upper p [] a = tt
apart-upper p (x ∷ xs) a = go (nat_eq x p) (apart-upper p xs a.1)
  where
    go : (b : Bool) → Apart (upper p xs) → Apart (cond b [] (x ∷ upper p xs))
    go true r = tt
    go false r = (has-out p x xs a.0, r)

-- the part from a place on
pub lower-in : (p u : ℕ) (ps : List ℕ) → has u (lower p ps) ≡ true → has u ps ≡ true
lower-in p u [] h = h
lower-in p u (y ∷ ys) h = let r = lower-in p u ys in grind (arith, common_steps, r)

pub head-lower : (p : ℕ) (ps : List ℕ) → has p ps ≡ true → head_of (lower p ps) ≡ Some p
head-lower p [] h = absurd (false≢true h)
head-lower p (x ∷ xs) h = let r = head-lower p xs in grind (arith, common_steps, r)

pub apart-lower : (p : ℕ) (ps : List ℕ) → Apart ps → Apart (lower p ps)
apart-lower p [] a = tt
apart-lower p (x ∷ xs) a = go (nat_eq x p) (apart-lower p xs a.1)
  where
    go : (b : Bool) → Apart (lower p xs) → Apart (cond b (x ∷ xs) (lower p xs))
    go true r = a
    go false r = r

pub below-lower : (p u : ℕ) (ps : List ℕ) → Apart ps → has u (lower p ps) ≡ true → below u ps ≡ below u (lower p ps)
below-lower p u [] a h = refl
below-lower p u (x ∷ xs) a h = let r = below-lower p u xs a.1 in let o = a.0 in let q = lower-in p u xs in grind (arith, common_steps, r, o, q)

pub length-lower : (p : ℕ) (ps : List ℕ) → length (lower p ps) ≤ length ps
length-lower p [] = omega arith
length-lower p (x ∷ xs) = go (nat_eq x p) (length-lower p xs)
  where
    go : (b : Bool) → length (lower p xs) ≤ length xs → length (cond b (x ∷ xs) (lower p xs)) ≤ suc (length xs)
    go true r = omega arith
    go false r = omega (arith, r)

-- each is in the upper part or in the lower
pub upper-lower : (p u : ℕ) (ps : List ℕ) → Apart ps → has u (upper p ps) ≡ cond (has u (lower p ps)) false (has u ps)
upper-lower p u [] a = refl
upper-lower p u (x ∷ xs) a =
    let r = upper-lower p u xs a.1 in
    let o = a.0 in
    let q = lower-in p x xs in
    grind (arith, common_steps, r, o, q)

pub above-upper : (b : Option ℕ) (p u : ℕ) (ps : List ℕ) → has u (upper p ps) ≡ true → above_from b u (upper p ps) ≡ above_from b u ps
above-upper b p u [] h = refl
above-upper b p u (x ∷ xs) h = let r = above-upper (Some x) p u xs in grind (arith, common_steps, r)

pub below-upper : (p u : ℕ) (ps : List ℕ) → Apart ps → has u (upper p ps) ≡ true → below u (upper p ps) ≡ cond (is_at (below u ps) p) None (below u ps)
below-upper p u [] a h = refl
below-upper p u (x ∷ []) a h = grind (arith, common_steps)
below-upper p u (x ∷ y ∷ zs) a h = let r = below-upper p u (y ∷ zs) a.1 in let o = a.0 in grind (arith, common_steps, r, o)

-- who is above p has p below
above-below_from : (b : Option ℕ) (p u : ℕ) (ps : List ℕ) → Apart ps → is_at b u ≡ false → has u (upper p ps) ≡ true → has p ps ≡ true → is_at (above_from b p ps) u ≡ is_at (below u ps) p
above-below_from b p u [] a nb h i = refl
above-below_from b p u (x ∷ []) a nb h i = grind (arith, common_steps)
above-below_from b p u (x ∷ y ∷ zs) a nb h i = go (nat_eq x p) (nat_eq x u) refl refl (λ e. above-below_from (Some x) p u (y ∷ zs) a.1 e)
  where
    go : (v w : Bool) → nat_eq x p ≡ v → nat_eq x u ≡ w → (nat_eq x u ≡ false → has u (upper p (y ∷ zs)) ≡ true → has p (y ∷ zs) ≡ true → is_at (above_from (Some x) p (y ∷ zs)) u ≡ is_at (below u (y ∷ zs)) p)
        → is_at (above_from b p (x ∷ y ∷ zs)) u ≡ is_at (below u (x ∷ y ∷ zs)) p
    go true w e f r = absurd (false≢true (sym (ap (λ v. has u (cond v [] (x ∷ upper p (y ∷ zs)))) e) ∙ h))
    go false true e f r =
        let same : x ≡ u = grind (arith, common_steps) in
        let out : has u (y ∷ zs) ≡ false = ap (λ z. has z (y ∷ zs)) (sym same) ∙ a.0 in
        let q = above-out y p u zs out in
        grind (arith, common_steps, q)
    go false false e f r =
        let first : has u (upper p (y ∷ zs)) ≡ true = grind (arith, common_steps, h) in
        let second : has p (y ∷ zs) ≡ true = grind (arith, common_steps, i) in
        ap (λ v. is_at (cond v b (above_from (Some x) p (y ∷ zs))) u) e ∙ r f first second ∙ sym (ap (λ v. is_at (cond v (Some y) (below u (y ∷ zs))) p) f)

pub above-below : (p u : ℕ) (ps : List ℕ) → Apart ps → has u (upper p ps) ≡ true → has p ps ≡ true → is_at (above p ps) u ≡ is_at (below u ps) p
above-below p u ps a h i = above-below_from None p u ps a refl h i

-- a list of different numbers below n is no longer than n
distinct-others : (t : ℕ) (vs : List ℕ) → has t vs ≡ false → AllByRecursion (λ y. eqb t y ≡ false) vs
distinct-others t [] o = tt
distinct-others t (v ∷ vs) o = (grind (arith, common_steps), distinct-others t vs (grind (arith, common_steps)))

distinct-apart : (vs : List ℕ) → Apart vs → IsDistinct eqb vs
unfolding IsDistinct
distinct-apart [] a = tt
distinct-apart (v ∷ vs) a = (distinct-others v vs a.0, distinct-apart vs a.1)

any-has : (q : ℕ) (vs : List ℕ) → list_any (eqb q) vs ≡ has q vs
any-has q [] = refl
any-has q (v ∷ vs) = let r = any-has q vs in grind (arith, common_steps, r)

pub length-apart : (n : ℕ) (vs : List ℕ) → Apart vs → ((u : ℕ) → has u vs ≡ true → u < n) → length vs ≤ n
length-apart n vs a lt = length-le_from_distinct_below vs n (distinct-apart vs a) (λ q h. lt q (sym (any-has q vs) ∙ h))
