-- Marks that edges bring on.
use Rattle.std.specs.Prelude.{◌≡◌, ◌≢◌, ◌≤◌, ◌<◌, ◌+◌, ◌-◌, ◌↔◌, ◌⊎◌, ◌&&◌, ℕ, zero, suc, Bool, true, false, not, cond, List, Some, get_or, set, nat_eq, length, slice_get, sum_by}
use Rattle.std.specs.Int.{from_bool}
use Rattle.std.proofs.Common.{refl, ap, sym, ◌∙◌, subst, inl, inr, arith}
use Rattle.std.proofs.lemmas.Grind.{common_steps}
use Rattle.std.proofs.lemmas.List.{get_or-set_same, get_or-set_other, length-set}
use Rattle.std.proofs.lemmas.List.Sums.{sum_by-set}
use Rattle.mcs_explore_search.specs.declared.search.Edge.{Edge}
use Rattle.mcs_explore_search.specs.Paths.{Run}
use Rattle.mcs_explore_search.specs.Reaching.{AreAllLed, AreWithin, IsLed, IsLink, IsShut, IsSweeping, is_marked, joins, marked, unmarked}
use Rattle.mcs_explore_search.proofs.Paths.{run-front}
use Rattle.mcs_explore_search.proofs.Places.{at-within, one-up, same-place}

-- a mark is where it was put, or an old one
pub mark-or : (marks : List Bool) (p i : ℕ) → is_marked (set marks p true) i ≡ true → (i ≡ p) ⊎ (is_marked marks i ≡ true)
mark-or marks p i h = go (nat_eq i p) refl
  where
    go : (b : Bool) → nat_eq i p ≡ b → (i ≡ p) ⊎ (is_marked marks i ≡ true)
    go true is = inl (grind (arith, common_steps, is))
    go false is = inr (sym (get_or-set_other marks p i true false (grind (arith, common_steps, is))) ∙ h)

-- an old mark stays
pub mark-stays : (marks : List Bool) (p i : ℕ) → p < length marks → is_marked marks i ≡ true → is_marked (set marks p true) i ≡ true
mark-stays marks p i lt h = go (nat_eq i p) refl
  where
    go : (b : Bool) → nat_eq i p ≡ b → is_marked (set marks p true) i ≡ true
    go true is = let same : i ≡ p = grind (arith, common_steps, is) in ap (λ (j : ℕ). is_marked (set marks p true) j) same ∙ get_or-set_same marks p true false lt
    go false is = get_or-set_other marks p i true false (grind (arith, common_steps, is)) ∙ h

-- a link, and then what it leads to is led on
link-led : {L : Type 0} (edges : List (Edge L)) (marks : List Bool) (i j : ℕ) → IsLink edges i j → IsLed edges marks j → IsLed edges marks i
link-led edges marks i j link led = record { steps = suc led.steps; end = led.end; run = run-front (IsLink edges) i j led.steps led.end link led.run; marked = led.marked }

pub mark-led : {L : Type 0} (edges : List (Edge L)) (marks : List Bool) (i : ℕ) → is_marked marks i ≡ true → IsLed edges marks i
mark-led edges marks i h = record { steps = 0; end = i; run = refl; marked = h }

sum-zero : (m : ℕ) → m ≡ 0 + m
sum-zero m = omega arith

sum-suc : (n m : ℕ) → suc (n + m) ≡ suc n + m
sum-suc n m = omega arith

-- two runs, one after the other
run-on : {A : Type 0} (Step : A → A → Type 0) (s u t : A) (m n : ℕ) → Run Step s m u → Run Step u n t → Run Step s (n + m) t
run-on {A = A} Step s u t m zero a b = subst (λ (x : A). Run Step s (0 + m) x) b (subst (λ (k : ℕ). Run Step s k u) (sum-zero m) a)
run-on {A = A} Step s u t m (suc n) a b = subst (λ (k : ℕ). Run Step s k t) (sum-suc n m) (b.0, (run-on Step s u b.0 m n a b.1.0, b.1.1))

-- what is led on to what is led on
led-on : {L : Type 0} (edges : List (Edge L)) (old new : List Bool) → ((j : ℕ) → is_marked new j ≡ true → IsLed edges old j) → (i : ℕ) → IsLed edges new i → IsLed edges old i
led-on edges old new all i a =
    let b : IsLed edges old a.end = all a.end a.marked in
    record { steps = b.steps + a.steps; end = b.end; run = run-on (IsLink edges) i a.end b.end a.steps b.steps a.run b.run; marked = b.marked }

-- both of two
both-left : (a b : Bool) → a && b ≡ true → a ≡ true
both-left true b h = refl
both-left false b h = absurd cc

both-right : (a b : Bool) → a && b ≡ true → b ≡ true
both-right true b h = h
both-right false b h = absurd cc

not-true : (b : Bool) → not b ≡ true → b ≡ false
not-true false h = refl
not-true true h = absurd cc

one-else : (a b : Bool) → a && not b ≡ false → a ≡ true → b ≡ true
one-else true true h is = refl
one-else true false h is = absurd cc
one-else false b h is = absurd cc

module _ {L : Type 0} (edges : List (Edge L)) (old : List Bool) where
  pub none-swept : IsSweeping edges old old 0 0
  none-swept = record {
    long = refl;
    kept = λ i h. h;
    led = λ i h. mark-led edges old i h;
    count = omega arith;
    few = omega arith;
    shut = λ none k e far at. absurd (let b = at-within edges k e at in omega (arith, far, b));
  }

  -- an edge more
  pub swept-on : AreWithin edges (length old) → (new : List Bool) (added n k : ℕ) (e : Edge L) → slice_get edges k ≡ Some e → length edges ≡ k + suc n → IsSweeping edges old new added n
      → IsSweeping edges old (marked e new) (added + from_bool (joins e new)) (suc n)
  swept-on within new added n k e at is a = go (joins e new) refl
    where
      from : e.from < length new
      from = let w = within k e at in let lt = w.0 in let long = a.long in omega (arith, lt, long)

      more : joins e new ≡ true → IsSweeping edges old (set new e.from true) (added + 1) (suc n)
      more new-one = record {
        long = length-set new e.from true ∙ a.long;
        kept = λ i h. mark-stays new e.from i from (a.kept i h);
        led = λ i h. led i (mark-or new e.from i h);
        count = let c = a.count in omega (arith, c, one);
        few = let f = a.few in omega (arith, f);
        shut = λ none. absurd (omega (arith, none));
      }
        where
          to : is_marked new e.to ≡ true
          to = both-left (is_marked new e.to) (not (is_marked new e.from)) new-one

          led : (i : ℕ) → (i ≡ e.from) ⊎ (is_marked new i ≡ true) → IsLed edges old i
          led i (inl is) = link-led edges old i e.to (record { number = k; edge = e; at = at; from = sym is; to = refl }) (a.led e.to to)
          led i (inr h) = a.led i h

          bare : get_or new e.from false ≡ false
          bare = not-true (is_marked new e.from) (both-right (is_marked new e.to) (not (is_marked new e.from)) new-one)

          one : unmarked (set new e.from true) + 1 ≡ unmarked new + 0
          one = ap (λ (b : Bool). unmarked (set new e.from true) + from_bool (not b)) (sym bare) ∙ sum_by-set (λ b. from_bool (not b)) new e.from true false from

      same : joins e new ≡ false → IsSweeping edges old new (added + 0) (suc n)
      same old-one = record {
        long = a.long;
        kept = a.kept;
        led = a.led;
        count = let c = a.count in omega (arith, c);
        few = let f = a.few in omega (arith, f);
        shut = λ none j o far there. shut none j o there (nat_eq j k) refl far;
      }
        where
          shut : added + 0 ≡ 0 → (j : ℕ) (o : Edge L) → slice_get edges j ≡ Some o → (b : Bool) → nat_eq j k ≡ b → length edges ≤ j + suc n → IsShut new o
          shut none j o there true eq far = subst (λ (x : Edge L). IsShut new x) (same-place edges k j e o (sym (grind (arith, common_steps, eq))) at there) (λ h. one-else (is_marked new e.to) (is_marked new e.from) old-one h)
          shut none j o there false ne far = a.shut (omega (arith, none)) j o (let apart : j ≢ k = grind (arith, common_steps, ne) in omega (arith, far, is, apart)) there

      go : (b : Bool) → joins e new ≡ b → IsSweeping edges old (marked e new) (added + from_bool (joins e new)) (suc n)
      go true h = subst (λ (b : Bool). IsSweeping edges old (cond b (set new e.from true) new) (added + from_bool b) (suc n)) (sym h) (more h)
      go false h = subst (λ (b : Bool). IsSweeping edges old (cond b (set new e.from true) new) (added + from_bool b) (suc n)) (sym h) (same h)

  -- the same, by what a call made of the marks
  pub swept-by : AreWithin edges (length old) → (new after : List Bool) (added more n k : ℕ) (e : Edge L) → slice_get edges k ≡ Some e → n < length edges → k ≡ length edges - 1 - n → after ≡ marked e new → more ≡ from_bool (joins e new)
      → IsSweeping edges old new added n → IsSweeping edges old after (added + more) (n + 1)
  swept-by within new after added more n k e at lt is marks adds a =
      subst (λ (ms : List Bool). IsSweeping edges old ms (added + more) (n + 1)) (sym marks)
      (subst (λ (m : ℕ). IsSweeping edges old (marked e new) (added + m) (n + 1)) (sym adds)
      (subst (λ (m : ℕ). IsSweeping edges old (marked e new) (added + from_bool (joins e new)) m) (sym (one-up n))
      (swept-on within new added n k e at (omega (arith, lt, is)) a)))

-- marks that are led on, while they grow
pub record IsMarking {L : Type 0} (edges : List (Edge L)) (old new : List Bool) : Type 0 where
  pub long : length new ≡ length old
  pub kept : (i : ℕ) → is_marked old i ≡ true → is_marked new i ≡ true
  pub led : (i : ℕ) → is_marked new i ≡ true → IsLed edges old i

pub no-marking : {L : Type 0} (edges : List (Edge L)) (old : List Bool) → IsMarking edges old old
no-marking edges old = record { long = refl; kept = λ i h. h; led = λ i h. mark-led edges old i h }

pub marking-on : {L : Type 0} (edges : List (Edge L)) (old mid new : List Bool) (added n : ℕ) → IsMarking edges old mid → IsSweeping edges mid new added n → IsMarking edges old new
marking-on edges old mid new added n a b = record {
  long = b.long ∙ a.long;
  kept = λ i h. b.kept i (a.kept i h);
  led = λ i h. led-on edges old mid a.led i (b.led i h);
}

-- where a sweep adds nothing, all are marked
pub all_led : {L : Type 0} (edges : List (Edge L)) (old mid new : List Bool) (added : ℕ) → added ≡ 0 → IsMarking edges old mid → IsSweeping edges mid new added (length edges) → AreAllLed edges old new
all_led edges old mid new added none a b = record { long = all.long; each = λ i. (all.led i, λ led. back led.steps i led.end led.run (all.kept led.end led.marked)) }
  where
    all : IsMarking edges old new
    all = marking-on edges old mid new added (length edges) a b

    link-back : (i j : ℕ) → IsLink edges i j → is_marked new j ≡ true → is_marked new i ≡ true
    link-back i j l h = ap (λ (k : ℕ). is_marked new k) (sym l.from) ∙ b.shut none l.number l.edge (omega arith) l.at (ap (λ (k : ℕ). is_marked new k) l.to ∙ h)

    back : (n i j : ℕ) → Run (IsLink edges) i n j → is_marked new j ≡ true → is_marked new i ≡ true
    back zero i j run h = ap (λ (k : ℕ). is_marked new k) run ∙ h
    back (suc n) i j run h = back n i run.0 run.1.0 (link-back run.0 j run.1.1 h)
