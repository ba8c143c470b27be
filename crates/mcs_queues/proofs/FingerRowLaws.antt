-- Rows of fingers, of which each is that of one line but the first.
use Rattle.std.proofs.Common.{◌≡◌, ◌≢◌, ◌≤◌, ◌<◌, ◌+◌, ℕ, zero, suc, Bool, true, false, nat_eq, List, [], ◌∷◌, ◌++◌, length, get_or, IfSome, set, replicate, Option, Some, None, refl, ap, sym, ◌∙◌, arith, length-append}
use Rattle.std.proofs.lemmas.Grind.{common_steps}
use Rattle.std.proofs.lemmas.List.{length-replicate, length-set, get_or-set_same, get_or-set_other, get_or_append_left}
use Rattle.mcs_queues.specs.declared.lines.ThreadNo.{ThreadNo}
use Rattle.mcs_queues.specs.declared.fingers.LineFingers.{LineFingers}
use Rattle.mcs_queues.specs.declared.fingers.TheConstants.{PRIORITIES}
use Rattle.mcs_queues.specs.Fingers.{FingerRows, IsKept, no_fingers, blank_rows, shared}
use Rattle.mcs_queues.proofs.LinkSteps.{get-replicate}

shared-blank : (n : ℕ) → shared (replicate n 0) ≡ n
shared-blank zero = refl
shared-blank (suc n) = let r = shared-blank n in omega (arith, r)

pub kept-blank : (n : ℕ) → n < 65536 → IsKept (blank_rows n)
kept-blank n few = record {
  within = λ k. let e = get-replicate {X = ℕ} 0 n k in omega (arith, e);
  first = refl;
  apart = λ j k e own. absurd (own (get-replicate {X = ℕ} 0 n k));
  count = omega (arith, shared-blank n, length-replicate {A = ℕ} n 0);
  few = omega (arith, length-replicate {A = ℕ} n 0, few);
}

own-some : (r : LineFingers) (p n : ℕ) → (n ≡ 0 → r ≡ no_fingers) → (o : Option ThreadNo) → get_or r.threads p None ≡ o → IfSome o (λ t. n ≢ 0)
own-some r p n h None e = tt
own-some r p n h (Some t) e = λ z. let none = ap (λ (x : LineFingers). get_or x.threads p None) (h z) ∙ get-replicate None PRIORITIES p in absurd (cc)

-- a finger is in a row of its line's own
pub own-row : (r : LineFingers) (p n : ℕ) → (n ≡ 0 → r ≡ no_fingers) → IfSome (get_or r.threads p None) (λ t. n ≢ 0)
own-row r p n h = own-some r p n h (get_or r.threads p None) refl

-- a line that shares the first row gets one of its own
shared-set : (ns : List ℕ) (q n : ℕ) → q < length ns → get_or ns q 0 ≡ 0 → n ≢ 0 → suc (shared (set ns q n)) ≡ shared ns
shared-set [] q n lt e ne = absurd (omega (arith, lt))
shared-set (m ∷ ms) zero n lt e ne = grind (arith, common_steps, e, ne)
shared-set (m ∷ ms) (suc q) n lt e ne = let r = shared-set ms q n (omega (arith, lt)) e ne in grind (arith, common_steps, r)

-- there is room for one more row
pub room-kept : (f : FingerRows) (q : ℕ) → IsKept f → q < length f.places → get_or f.places q 0 ≡ 0 → length f.rows ≤ length f.places
room-kept f q h lt e =
    let ne : length f.rows ≢ 0 = λ z. let w = h.within q in absurd (omega (arith, w, z)) in
    let s = shared-set f.places q (length f.rows) lt e ne in
    omega (arith, s, h.count)

opened-apart : (f : FingerRows) (q j k : ℕ) → IsKept f → q < length f.places → (a b : Bool) → nat_eq j q ≡ a → nat_eq k q ≡ b
    → get_or (set f.places q (length f.rows)) j 0 ≡ get_or (set f.places q (length f.rows)) k 0 → get_or (set f.places q (length f.rows)) k 0 ≢ 0 → j ≡ k
opened-apart f q j k h lt true true a b e own = grind (arith, common_steps, a, b)
opened-apart f q j k h lt true false a b e own =
    let is : j ≡ q = grind (arith, common_steps, a) in
    let ne : k ≢ q = grind (arith, common_steps, b) in
    let s = get_or-set_same f.places q (length f.rows) 0 lt in
    let o = get_or-set_other f.places q k (length f.rows) 0 ne in
    let w = h.within k in
    let m : get_or (set f.places q (length f.rows)) j 0 ≡ length f.rows = ap (λ i. get_or (set f.places q (length f.rows)) i 0) is ∙ s in
    absurd (omega (arith, m, o, e, w))
opened-apart f q j k h lt false true a b e own =
    let is : k ≡ q = grind (arith, common_steps, b) in
    let ne : j ≢ q = grind (arith, common_steps, a) in
    let s = get_or-set_same f.places q (length f.rows) 0 lt in
    let o = get_or-set_other f.places q j (length f.rows) 0 ne in
    let w = h.within j in
    let m : get_or (set f.places q (length f.rows)) k 0 ≡ length f.rows = ap (λ i. get_or (set f.places q (length f.rows)) i 0) is ∙ s in
    absurd (omega (arith, m, o, e, w))
opened-apart f q j k h lt false false a b e own =
    let oj = get_or-set_other f.places q j (length f.rows) 0 (grind (arith, common_steps, a)) in
    let ok = get_or-set_other f.places q k (length f.rows) 0 (grind (arith, common_steps, b)) in
    h.apart j k (sym oj ∙ e ∙ ok) (λ z. own (ok ∙ z))

opened-within : (f : FingerRows) (q k : ℕ) → IsKept f → q < length f.places → (b : Bool) → nat_eq k q ≡ b → get_or (set f.places q (length f.rows)) k 0 < length f.rows + 1
opened-within f q k h lt true b =
    let is : k ≡ q = grind (arith, common_steps, b) in
    let m : get_or (set f.places q (length f.rows)) k 0 ≡ length f.rows = ap (λ i. get_or (set f.places q (length f.rows)) i 0) is ∙ get_or-set_same f.places q (length f.rows) 0 lt in
    omega (arith, m)
opened-within f q k h lt false b =
    let o = get_or-set_other f.places q k (length f.rows) 0 (grind (arith, common_steps, b)) in
    let w = h.within k in
    omega (arith, o, w)

pub kept-open : (f : FingerRows) (q : ℕ) → IsKept f → q < length f.places → get_or f.places q 0 ≡ 0
    → IsKept (record { rows = f.rows ++ no_fingers ∷ []; places = set f.places q (length f.rows) })
kept-open f q h lt e =
    let some : 0 < length f.rows = (let w = h.within q in omega (arith, w)) in
    let ne : length f.rows ≢ 0 = λ z. absurd (omega (arith, some, z)) in
    let n : length (f.rows ++ no_fingers ∷ []) ≡ length f.rows + 1 = length-append f.rows (no_fingers ∷ []) in
    let s = shared-set f.places q (length f.rows) lt e ne in
    let m = length-set f.places q (length f.rows) in
    record {
      within = λ k. let w = opened-within f q k h lt (nat_eq k q) refl in omega (arith, w, n);
      first = get_or_append_left f.rows (no_fingers ∷ []) no_fingers 0 some ∙ h.first;
      apart = λ j k. opened-apart f q j k h lt (nat_eq j q) (nat_eq k q) refl refl;
      count = omega (arith, s, n, m, h.count);
      few = omega (arith, m, h.few);
    }
