-- What the search finds is the pick.
use Rattle.std.specs.Prelude.{ℕ, zero, suc, ◌≡◌, ◌<◌, ◌≤◌, ◌+◌, ◌-◌, Bool, true, false, cond, ◌&&◌, nat_lt, List, Option, Some, None, option_and_then}
use Rattle.std.proofs.Common.{refl, ap, sym, ◌∙◌, subst, arith}
use Rattle.std.proofs.lemmas.Grind.{common_steps}
use Rattle.mcs_types.specs.declared.id.ObjId.{ObjId}
use Rattle.mcs_types.specs.declared.id.CoreId.{CoreId}
use Rattle.mcs_types.specs.declared.id.Kind.TheVariants as kind
use Rattle.mcs_types.proofs.Ids.{parts}
use Rattle.mcs_book.specs.Logs.{Log, counted}
use Rattle.mcs_book.specs.Objects.{makes_kind, form_of}
use Rattle.mcs_book.specs.Threads.{prio_of}
use Rattle.mcs_book.specs.Contexts.{context_of}
use Rattle.mcs_book.specs.Statuses.{may_enter, is_ready, is_on_core, status_of}
use Rattle.mcs_book.specs.Picking.{is_candidate, GoesBefore, IsPick}
use Rattle.mcs_book.specs.Sound.{Sound, IsThere}
use Rattle.mcs_state.specs.Picking.{thread_at, picked, is_above, better_of, best_below}
use Rattle.mcs_book.proofs.Threads.EntersLaws.{enters-ready}
use Rattle.mcs_book.proofs.Objects.MadeLaws.{alive-made, made-serial}

-- o goes before all other candidates of the numbers below n
abbrev IsBest : Log → CoreId → List Bool → ℕ → Option ℕ → Type 0
IsBest R core passed n None = (m : ℕ) → m < n → is_candidate R core passed (thread_at m) ≡ false
IsBest R core passed n (Some b) = (b < n) × (is_candidate R core passed (thread_at b) ≡ true)
    × ((m : ℕ) → m < n → is_candidate R core passed (thread_at m) ≡ true → GoesBefore R (thread_at b) (thread_at m))

-- a number below n or n itself
below-suc : (P : ℕ → Type 0) (n : ℕ) → ((m : ℕ) → m < n → P m) → P n → (m : ℕ) → m < suc n → P m
below-suc P n all last m lt = go (nat_lt m n) refl
  where
    go : (b : Bool) → nat_lt m n ≡ b → P m
    go true less = all m (grind (arith, common_steps, less))
    go false not_less = subst P (grind (arith, common_steps, not_less, lt)) last

-- one more thread was looked at
better-is : (R : Log) (core : CoreId) (passed : List Bool) (n : ℕ) (o : Option ℕ) → IsBest R core passed n o → IsBest R core passed (suc n) (better_of R core passed n o)
better-is R core passed n o best = go (is_candidate R core passed (thread_at n)) refl o best (is_above R n o) refl
  where
    go : (c : Bool) → is_candidate R core passed (thread_at n) ≡ c → (o : Option ℕ) → IsBest R core passed n o → (a : Bool) → is_above R n o ≡ a
        → IsBest R core passed (suc n) (cond (c && a) (Some n) o)
    go false fails None best a e = below-suc (λ m. is_candidate R core passed (thread_at m) ≡ false) n best fails
    go false fails (Some b) best a e =
        (omega (arith, best.0), best.1, below-suc (λ m. is_candidate R core passed (thread_at m) ≡ true → GoesBefore R (thread_at b) (thread_at m)) n best.2 (λ holds. let no_more : true ≡ false = sym holds ∙ fails in absurd cc))
    go true holds None best true e = (
      omega arith,
      holds,
      below-suc (λ m. is_candidate R core passed (thread_at m) ≡ true → GoesBefore R (thread_at n) (thread_at m)) n
          (λ m lt is. let no_more : true ≡ false = sym is ∙ best m lt in absurd cc)
          (λ is. record { priority = omega arith; serial = λ e. omega arith }),
    )
    go true holds None best false e = absurd cc
    go true holds (Some b) best true e =
        let above : prio_of R (thread_at b) < prio_of R (thread_at n) = grind (arith, common_steps, e) in (
          omega arith,
          holds,
          below-suc (λ m. is_candidate R core passed (thread_at m) ≡ true → GoesBefore R (thread_at n) (thread_at m)) n
              (λ m lt is. let g : GoesBefore R (thread_at b) (thread_at m) = best.2 m lt is in record { priority = omega (arith, above, g.priority); serial = λ e. absurd (omega (arith, above, g.priority, e)) })
              (λ is. record { priority = omega arith; serial = λ e. omega arith }),
        )
    go true holds (Some b) best false e =
        let not_above : prio_of R (thread_at n) ≤ prio_of R (thread_at b) = grind (arith, common_steps, e) in (
          omega (arith, best.0),
          best.1,
          below-suc (λ m. is_candidate R core passed (thread_at m) ≡ true → GoesBefore R (thread_at b) (thread_at m)) n best.2
              (λ is. record { priority = not_above; serial = λ e. omega (arith, best.0) }),
        )

best-is : (R : Log) (core : CoreId) (passed : List Bool) (n : ℕ) → IsBest R core passed n (best_below R core passed n)
best-is R core passed zero = λ m lt. absurd (omega (arith, lt))
best-is R core passed (suc n) = better-is R core passed n (best_below R core passed n) (best-is R core passed n)

-- what is found when one more number was looked at
pub best-next : (R : Log) (core : CoreId) (passed : List Bool) (n : ℕ) (o p : Option ℕ) → o ≡ best_below R core passed n → p ≡ better_of R core passed n o → p ≡ best_below R core passed (n + 1)
best-next R core passed n o p e f = let one : n + 1 ≡ suc n = omega arith in rw one (f ∙ ap (λ b. better_of R core passed n b) e)

-- who may enter is ready, and holds a context of the core
pub entrant : (R : Log) (core : CoreId) (t : ObjId) → (is_ready (status_of R t) && is_on_core core (option_and_then (λ s. form_of R s) (context_of R t))) ≡ may_enter R core t
unfolding may_enter
entrant R core t = refl

-- who may enter is there
pub entrant-there : (R : Log) (core : CoreId) (t : ObjId) → may_enter R core t ≡ true → IsThere R kind.Thread t
entrant-there R core t may = let e = enters-ready R core t may in (e.thread, e.alive)

-- a candidate is the thread of a number below the count of threads
candidate-number : (R : Log) (core : CoreId) (passed : List Bool) (n : ℕ) (t : ObjId) → Sound R → n ≡ counted (makes_kind kind.Thread) R → is_candidate R core passed t ≡ true
    → (t ≡ thread_at (t.serial - 1)) × (t.serial - 1 < n)
candidate-number R core passed n t sound e is =
    let there : IsThere R kind.Thread t = entrant-there R core t (parts (may_enter R core t) _ is).0 in
    let kinds : t.kind ≡ kind.Thread = there.0 in
    let given = made-serial R t sound (alive-made R t there.1) in
    let low : 1 ≤ t.serial = given.0 in
    let few : t.serial ≤ n = subst (λ m. t.serial ≤ m) (ap (λ k. counted (makes_kind k) R) kinds ∙ sym e) given.1 in
    let serial : t.serial ≡ t.serial - 1 + 1 = omega (arith, low) in
    (λ i. record { kind = kinds i; serial = serial i }, omega (arith, low, few))

pub pick-is : (R : Log) (core : CoreId) (passed : List Bool) (n : ℕ) → Sound R → n ≡ counted (makes_kind kind.Thread) R → IsPick R core passed (picked (best_below R core passed n))
pick-is R core passed n sound e = go (best_below R core passed n) (best-is R core passed n)
  where
    go : (o : Option ℕ) → IsBest R core passed n o → IsPick R core passed (picked o)
    go None best = λ u is.
        let at : (u ≡ thread_at (u.serial - 1)) × (u.serial - 1 < n) = candidate-number R core passed n u sound e is in
        let no : true ≡ false = sym is ∙ ap (λ x. is_candidate R core passed x) at.0 ∙ best (u.serial - 1) at.1 in absurd cc
    go (Some b) best = (
      best.1,
      λ u is.
          let at : (u ≡ thread_at (u.serial - 1)) × (u.serial - 1 < n) = candidate-number R core passed n u sound e is in
          subst (λ x. GoesBefore R (thread_at b) x) (sym at.0) (best.2 (u.serial - 1) at.1 (subst (λ x. is_candidate R core passed x ≡ true) at.0 is)),
    )
