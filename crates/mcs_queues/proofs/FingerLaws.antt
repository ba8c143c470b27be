-- Fingers of lines.
use Rattle.std.proofs.Common.{◌≡◌, ◌≢◌, ◌<◌, ◌&&◌, cond, ℕ, Bool, true, false, nat_eq, List, [], ◌∷◌, ◌++◌, length, get_or, replicate, Option, Some, None, refl, ap, sym, ◌∙◌, subst, arith}
use Rattle.std.proofs.lemmas.Grind.{common_steps}
use Rattle.std.proofs.lemmas.List.{length-replicate}
use Rattle.mcs_types.specs.Waiters.{Waiter, lower, NoneAbove, NeverRises}
use Rattle.mcs_queues.specs.declared.lines.ThreadNo.{ThreadNo}
use Rattle.mcs_queues.specs.declared.slots.ThreadSlot.{ThreadSlot}
use Rattle.mcs_queues.specs.declared.fingers.TheConstants.{PRIORITIES}
use Rattle.mcs_queues.specs.Numbers.{line_number}
use Rattle.mcs_queues.specs.Links.{Links, blank_ends, slot_at, spelled, stands_at}
use Rattle.mcs_queues.specs.Linked.{Linked, Walked}
use Rattle.mcs_queues.specs.Fingers.{FingerRows, finger, no_fingers, blank_rows, Points, IsReleased, IsLower, Pointed}
use Rattle.mcs_queues.proofs.LinkLaws.{Relinked}
use Rattle.mcs_queues.proofs.LinkSteps.{get-replicate, place}
use Rattle.mcs_queues.proofs.WalkLaws.{visited}

no-finger : (n q c : ℕ) → finger (blank_rows n) q c ≡ None
no-finger n q c =
    let e : get_or (replicate n 0) q 0 ≡ 0 = get-replicate {X = ℕ} 0 n q in
    ap (λ (i : ℕ). get_or (get_or (no_fingers ∷ []) i no_fingers).threads c None) e ∙ get-replicate None PRIORITIES c

-- lines without fingers
pub pointed-none : (f : FingerRows) (l : Links) (n : ℕ) → f ≡ blank_rows n → l.lines ≡ replicate n blank_ends → Pointed f l
pointed-none f l n h e = record {
  lines = ap (λ (g : FingerRows). length g.places) h ∙ length-replicate n 0 ∙ sym (ap length e ∙ length-replicate n blank_ends);
  stands = λ q c t i. let none = ap (λ (g : FingerRows). finger g q c) h ∙ no-finger n q c in absurd (cc);
  priorities = λ q c t i. let none = ap (λ (g : FingerRows). finger g q c) h ∙ no-finger n q c in absurd (cc);
}

rises-behind : (xs ys : List Waiter) → NeverRises (xs ++ ys) → NeverRises ys
rises-behind [] ys h = h
rises-behind (x ∷ xs) ys h = rises-behind xs ys h.1

none-above-lower : (a p : ℕ) (vs : List Waiter) → NoneAbove a vs → a < p → lower p vs ≡ length vs
none-above-lower a p [] h lt = refl
none-above-lower a p (v ∷ vs) h lt =
    let r = none-above-lower a p vs h.1 lt in
    let le = h.0 in
    grind (arith, common_steps, r, le, lt)

all-lower : (p : ℕ) (v : Waiter) (vs : List Waiter) → NeverRises (v ∷ vs) → v.priority < p → lower p (v ∷ vs) ≡ length (v ∷ vs)
all-lower p v vs h lt =
    let r = none-above-lower v.priority p vs h.0 lt in
    grind (arith, common_steps, r, lt)

-- a walk may begin before a finger of a lower priority
pub finger-walks : (f : FingerRows) (l : Links) (q p : ℕ) (t : ThreadNo) → Linked l (spelled l) → Pointed f l → IsLower f q p t → Walked (spelled l q) p (slot_at l t.0).previous (Some t) 1
finger-walks f l q p t h g i =
    let is = g.stands q i.0 t i.2 in
    let s = place l t q h is in
    let v = visited l q t.0 (spelled l q) s.front s.own s.back (h q) s.is s.thread in
    let lt : s.own.priority < p = omega (arith, v.0, g.priorities q i.0 t i.2, i.1) in
    let P : List Waiter → Type 0 = NeverRises in
    record {
      front = s.front;
      back = s.own ∷ s.back;
      is = s.is;
      before_is = v.1;
      after_is = ap (λ n. Some n) (sym s.thread);
      passed = grind (arith, common_steps);
      lower_are = all-lower p s.own s.back (rises-behind s.front (s.own ∷ s.back) (subst P s.is (h q).rises)) lt;
    }

pub finger-in_room : (f : FingerRows) (l : Links) (q p : ℕ) (t : ThreadNo) → Linked l (spelled l) → Pointed f l → IsLower f q p t → t.0 < length l.threads
finger-in_room f l q p t h g i = (place l t q h (g.stands q i.0 t i.2)).within

-- a thread is in a line with a priority
abbrev IsIn : Links → ℕ → ℕ → ℕ → Type 0
IsIn l q p t = (stands_at l t ≡ Some q) × ((slot_at l t).priority.0 ≡ p)

in-other : (q t : ℕ) (before after x y : Option ThreadNo) (s : ThreadSlot) (l m : Links) → Relinked q t before after x y s l m → (k b u : ℕ) → u ≢ t → IsIn l k b u → IsIn m k b u
in-other q t before after x y s l m r k b u ne i = (
  ap (λ (z : ThreadSlot). line_number z.line) (r.others u ne) ∙ i.0,
  ap (λ (z : ThreadSlot). z.priority.0) (r.others u ne) ∙ i.1,
)

in-own : (q t : ℕ) (before after x y : Option ThreadNo) (s : ThreadSlot) (l m : Links) → Relinked q t before after x y s l m → line_number s.line ≡ Some q → IsIn m q (s.priority.0) t
in-own q t before after x y s l m r e = (
  ap (λ (z : ThreadSlot). line_number z.line) r.here ∙ e,
  ap (λ (z : ThreadSlot). z.priority.0) r.here,
)

-- a finger of before the thread entered
beside-finger : (old : FingerRows) (q : ℕ) (t : ThreadNo) (before after x y : Option ThreadNo) (s : ThreadSlot) (l m : Links) → Pointed old l → Relinked q t.0 before after x y s l m → stands_at l t.0 ≡ None
    → (k c : ℕ) (u : ThreadNo) → finger old k c ≡ Some u → IsIn m k c u.0
beside-finger old q t before after x y s l m f r out k c u was =
    let st = f.stands k c u was in
    let ne : u.0 ≢ t.0 = λ g. let o = ap (stands_at l) g in absurd (cc) in
    in-other q t.0 before after x y s l m r k c u.0 ne (st, f.priorities k c u was)

enter-finger : (old new : FingerRows) (q : ℕ) (t : ThreadNo) (before after x y : Option ThreadNo) (s : ThreadSlot) (l m : Links) → Pointed old l → Relinked q t.0 before after x y s l m → stands_at l t.0 ≡ None → line_number s.line ≡ Some q → Points old new q s.priority.0 (Some t)
    → (k c : ℕ) (u : ThreadNo) → finger new k c ≡ Some u → (e : Bool) → (nat_eq k q && nat_eq c s.priority.0) ≡ e → IsIn m k c u.0
enter-finger old new q t before after x y s l m f r out own points k c u h true e =
    let is = points k c in
    let w : u ≡ t = cc in
    let a : k ≡ q = grind (arith, common_steps, e) in
    let b : c ≡ s.priority.0 = grind (arith, common_steps, e) in
    let P : ThreadNo → Type 0 = λ z. IsIn m k c z.0 in
    let Q : ℕ → Type 0 = λ z. IsIn m z c t.0 in
    let R : ℕ → Type 0 = λ z. IsIn m q z t.0 in
    subst P (sym w) (subst Q (sym a) (subst R (sym b) (in-own q t.0 before after x y s l m r own)))
enter-finger old new q t before after x y s l m f r out own points k c u h false e =
    let is = points k c in
    let was : finger old k c ≡ Some u = cc in
    beside-finger old q t before after x y s l m f r out k c u was

-- each finger that is as it was
same-finger : (old new : FingerRows) (q p : ℕ) → Points old new q p (finger old q p) → (k c : ℕ) → (e : Bool) → (nat_eq k q && nat_eq c p) ≡ e → finger new k c ≡ finger old k c
same-finger old new q p points k c true e =
    let is = points k c in
    let a : k ≡ q = grind (arith, common_steps, e) in
    let b : c ≡ p = grind (arith, common_steps, e) in
    let o : finger old k c ≡ finger old q p = ap (λ n. finger old n c) a ∙ ap (λ n. finger old q n) b in
    let w : finger new k c ≡ finger old q p = cc in
    w ∙ sym o
same-finger old new q p points k c false e = let is = points k c in cc

enter-offered : (old new : FingerRows) (q : ℕ) (t : ThreadNo) (before after x y : Option ThreadNo) (s : ThreadSlot) (l m : Links) → Pointed old l → Relinked q t.0 before after x y s l m → stands_at l t.0 ≡ None → line_number s.line ≡ Some q
    → (b : Bool) → Points old new q s.priority.0 (cond b (Some t) (finger old q s.priority.0)) → (k c : ℕ) (u : ThreadNo) → finger new k c ≡ Some u → IsIn m k c u.0
enter-offered old new q t before after x y s l m f r out own true points k c u h =
    enter-finger old new q t before after x y s l m f r out own points k c u h (nat_eq k q && nat_eq c s.priority.0) refl
enter-offered old new q t before after x y s l m f r out own false points k c u h =
    beside-finger old q t before after x y s l m f r out k c u (sym (same-finger old new q s.priority.0 points k c (nat_eq k q && nat_eq c s.priority.0) refl) ∙ h)

-- after a thread has entered a line, whose finger it may be now
pub pointed-enter : (old new : FingerRows) (q : ℕ) (t : ThreadNo) (before after x y : Option ThreadNo) (s : ThreadSlot) (l m : Links) → Pointed old l → Relinked q t.0 before after x y s l m → stands_at l t.0 ≡ None → line_number s.line ≡ Some q
    → (b : Bool) → Points old new q s.priority.0 (cond b (Some t) (finger old q s.priority.0)) → length new.places ≡ length old.places → Pointed new m
pointed-enter old new q t before after x y s l m f r out own b points n =
    let each : (k c : ℕ) (u : ThreadNo) → finger new k c ≡ Some u → IsIn m k c u.0 = enter-offered old new q t before after x y s l m f r out own b points in
    record {
      lines = n ∙ f.lines ∙ sym r.lines;
      stands = λ k c u h. (each k c u h).0;
      priorities = λ k c u h. (each k c u h).1;
    }

-- after a thread has left its line, which has no finger at it any more
pub pointed-leave : (old new : FingerRows) (q : ℕ) (t : ThreadNo) (before after x y : Option ThreadNo) (s : ThreadSlot) (l m : Links) → Pointed old l → Relinked q t.0 before after x y s l m → stands_at l t.0 ≡ Some q → IsReleased old new q ((slot_at l t.0).priority.0) t → length new.places ≡ length old.places → Pointed new m
pointed-leave old new q t before after x y s l m f r was left n =
    let each : (k c : ℕ) (u : ThreadNo) → finger new k c ≡ Some u → IsIn m k c u.0 = λ k c u h.
    let o = left.same k c u h in
    let st = f.stands k c u o in
    let bd = f.priorities k c u o in
    let ne : u.0 ≢ t.0 = λ g.
    let w : u ≡ t = ap (λ (n : ℕ). record { 0 = n }) g in
    let a : k ≡ q = let z = ap (stands_at l) g in cc in
    let b : c ≡ (slot_at l t.0).priority.0 = sym bd ∙ ap (λ n. (slot_at l n).priority.0) g in
    left.left (sym (ap (λ n. finger new n c) a ∙ ap (λ n. finger new q n) b) ∙ h ∙ ap (λ z. Some z) w) in
    in-other q t.0 before after x y s l m r k c u.0 ne (st, bd)
    in
    record {
      lines = n ∙ f.lines ∙ sym r.lines;
      stands = λ k c u h. (each k c u h).0;
      priorities = λ k c u h. (each k c u h).1;
    }
