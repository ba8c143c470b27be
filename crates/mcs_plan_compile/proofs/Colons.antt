-- Where the first colon is that a space follows, and the first line of a step.
use Rattle.std.proofs.Common.{◌≡◌, ◌≢◌, ◌+◌, ◌<◌, ◌≤◌, ◌==◌, ◌&&◌, ℕ, zero, suc, Bool, true, false, not, cond, List, [], ◌∷◌, length, take, drop, get_or, Some, None, Option, refl, sym, ap, ◌∙◌, arith, Bor, MatchOption, option_map, length-drop}
use Rattle.std.specs.Str.Pattern.{FindsText, SplitsAroundMatch}
use Rattle.mcs_plan_source.specs.Naming.{texts}
use Rattle.mcs_plan_compile.specs.Stepping.{begins_with_space, cut_at_colon, begins_steps, count_before}
use Rattle.mcs_plan_compile.proofs.Said.{rest_is}

-- no colon with a space after it is in front
none_here : (b : ℕ) (bs : List ℕ) → ((rest : List ℕ) → b ∷ bs ≢ 58 ∷ 32 ∷ rest) → b == 58 && begins_with_space bs ≡ false
none_here b [] lacks = go (b == 58)
  where
    go : (t : Bool) → t && false ≡ false
    go true = refl
    go false = refl
none_here b (c ∷ cs) lacks = go (b == 58) (c == 32) refl refl
  where
    go : (p q : Bool) → (b == 58) ≡ p → (c == 32) ≡ q → p && q ≡ false
    go true true e f =
        let first : b ≡ 58 = grind (arith, e) in
        let second : c ≡ 32 = grind (arith, f) in
        absurd (lacks cs (ap (λ x. x ∷ c ∷ cs) first ∙ ap (λ y. 58 ∷ y ∷ cs) second))
    go true false e f = refl
    go false q e f = refl

abbrev after_byte : ℕ → Option (List ℕ × List ℕ) → Option (List ℕ × List ℕ)
after_byte b o = option_map (λ p. (b ∷ p.0, p.1)) o

next_byte : (b : ℕ) (bs : List ℕ) → b == 58 && begins_with_space bs ≡ false → cut_at_colon (b ∷ bs) ≡ after_byte b (cut_at_colon bs)
next_byte b bs none = ap (λ t. cond t (Some ([], drop 1 bs)) (after_byte b (cut_at_colon bs))) none

-- one is at a place, and none before it
found : (s : List ℕ) (i : ℕ) (after : List ℕ) → ((k : ℕ) → k < i → (rest : List ℕ) → drop k s ≢ 58 ∷ 32 ∷ rest) → drop i s ≡ 58 ∷ 32 ∷ after
    → cut_at_colon s ≡ Some (take i s, after)
found [] i after lacks there = absurd (omega (arith, ap length there, length-drop {A = ℕ} i []))
found (b ∷ bs) zero after lacks there = ap cut_at_colon there
found (b ∷ bs) (suc i) after lacks there =
    next_byte b bs (none_here b bs (lacks 0 (omega arith)))
    ∙ ap (after_byte b) (found bs i after (λ k l rest. lacks (suc k) (omega arith) rest) there)

nowhere : (s : List ℕ) → ((k : ℕ) → k ≤ length s → (rest : List ℕ) → drop k s ≢ 58 ∷ 32 ∷ rest) → cut_at_colon s ≡ None
nowhere [] lacks = refl
nowhere (b ∷ bs) lacks =
    next_byte b bs (none_here b bs (lacks 0 (omega arith)))
    ∙ ap (after_byte b) (nowhere bs (λ k l rest. lacks (suc k) (omega arith) rest))

-- what the library finds is that
pub cut_is : (s : List ℕ) (r : Option (Bor (List ℕ) × Bor (List ℕ)))
    → MatchOption r (FindsText (58 ∷ 32 ∷ []) s None) (λ x. SplitsAroundMatch (FindsText (58 ∷ 32 ∷ [])) s x.0.now x.1.now)
    → option_map (λ p. (p.0.now, p.1.now)) r ≡ cut_at_colon s
cut_is s None lacks = sym (nowhere s lacks)
cut_is s (Some x) h = (λ k. Some (h.3 k, h.4 k)) ∙ sym (found s h.0 (drop h.1 s) h.2.0 h.2.1.split)

module _ (ls : List (Bor (List ℕ))) (i : ℕ) (d : Bor (List ℕ)) (within : i < length ls) where
  -- the line at a place is the first of a step, or not
  begins_or : (b : Bool) → begins_steps (get_or ls i d).now ≡ b → count_before (drop i (texts ls)) ≡ cond (not b) (1 + count_before (drop (i + 1) (texts ls))) 0
  begins_or b is = ap count_before (rest_is ls i d within) ∙ ap (λ t. cond (not t) (1 + count_before (drop (i + 1) (texts ls))) 0) is

  pub stops_here : begins_steps (get_or ls i d).now ≡ true → count_before (drop i (texts ls)) ≡ 0
  stops_here is = begins_or true is

  pub goes_on : begins_steps (get_or ls i d).now ≡ false → count_before (drop i (texts ls)) ≡ 1 + count_before (drop (i + 1) (texts ls))
  goes_on is = begins_or false is
